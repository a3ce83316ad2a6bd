-- The listings as lists of edges (docs/changes/06-clean-listing.md): the clean one has the edges of the ported one, in their order, less those that touch an all-zero face normal. Letters as in Sharpen.antt.
use Rattle.std.specs.Prelude.{ℕ, ◌*◌, ◌≡◌, List, [], ◌∷◌, ◌++◌, not, filter, flat_map, length, take, drop, replicate, Float}
use Rattle.std.specs.List.{range_with_len}
use Rattle.mesh.specs.Mesh.{paired_halfedge, Halfedges}
use Rattle.questions.specs.Check.{when_accepted}
use Rattle.sharpen.specs.Crease.{min_radians, touches_zero, is_listed}
use Rattle.sharpen.specs.Entries.{Entries, entries_in}
use Rattle.sharpen.specs.Sharpen.{check_lists, Listing, entries_of, tally_of, sharpen_edges, entries_after, Values}
use Rattle.sharpen.specs.declared.edge.Rule.{Rule}
use Rattle.sharpen.specs.declared.edge.Rule.TheVariants.{Ported, Clean}

-- the edges of the ported listing, each by its forward halfedge, in order
abbrev pub ported_edges : Halfedges → List Float → Float → ℕ → List ℕ
ported_edges H A angle n = filter (is_listed Ported H A (min_radians angle)) (range_with_len 0 n)

-- those of a listing: of the clean one, the ported ones that touch no all-zero face normal
abbrev pub edges_of : Rule → Halfedges → List Float → Float → ℕ → List ℕ
edges_of Ported H A angle n = ported_edges H A angle n
edges_of Clean H A angle n = filter (λ e. not (touches_zero H A e)) (ported_edges H A angle n)

-- the same after the questions: none where the call refuses
abbrev pub edges_after : Rule → Halfedges → List Float → Float → List ℕ → List Float → ℕ → ℕ → List ℕ
edges_after rule H A angle I Q n p = when_accepted (check_lists H A I Q n p) (edges_of rule H A angle n) []

-- the two entries of an edge: its forward halfedge, then its pair
abbrev pub edge_entries : Halfedges → ℕ → List ℕ
edge_entries H e = e ∷ paired_halfedge H e ∷ []

-- THE CLAIM, of the lists `s` after a call: they hold the entries of these edges, edge by edge, and past them the places as I and Q were lent
pub record HoldEdges (H : Halfedges) (smooth : Float) (I : List ℕ) (Q : List Float) (edges : List ℕ) (s : Entries) : Type 0 where
  pub count : s.count ≡ 2 * length edges
  pub halfedges : s.halfedges ≡ flat_map (edge_entries H) edges ++ drop s.count I
  pub smoothness : s.smoothness ≡ replicate s.count smooth ++ drop s.count Q

-- THE CLAIM, of the lists `clean` after the clean call: its entries are those that the ported call would leave in the same lists and that touch no all-zero face normal, in the same order
abbrev pub EntriesFiltered : Halfedges → List Float → Float → Float → List ℕ → List Float → ℕ → ℕ → Entries → Type 0
EntriesFiltered H A angle smooth I Q n p clean =
    let ported = entries_after Ported H A angle smooth I Q n p in
    take clean.count clean.halfedges ≡ filter (λ e. not (touches_zero H A e)) (take ported.count ported.halfedges)

-- what either call says of its answer `r` and of the two lists after it, by its rule
pub record Outcome (rule : Rule) (H : Halfedges) (A : List Float) (angle smooth : Float) (I : List ℕ) (Q : List Float) (n p : ℕ) (entries : List ℕ) (smoothness : List Float) (r : Listing) : Type 0 where
  -- the answer is that of the definition
  pub answer : r ≡ sharpen_edges rule H A angle smooth I Q n p
  -- the halfedges of the entries, in their list
  pub listed : entries ≡ (entries_after rule H A angle smooth I Q n p).halfedges
  -- the smoothness of each, in its list
  pub copied : smoothness ≡ (entries_after rule H A angle smooth I Q n p).smoothness
  -- number, place and each value of the answer
  pub values : Values rule H A angle smooth I Q n p r
  -- the lists hold the entries of the rule's edges, edge by edge
  pub edges : HoldEdges H smooth I Q (edges_after rule H A angle I Q n p) (entries_in entries smoothness (entries_of r))
  -- the tally is the number of the clean listing's edges
  pub counted : tally_of r ≡ length (edges_after Clean H A angle I Q n p)
