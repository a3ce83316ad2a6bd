-- The questions 3 to 7 as the code puts them: first all at once to each triangle, and where one is answered no, one after the other. Only contracts inside the crate name this.
use Rattle.std.specs.Prelude.{ℕ, ◌+◌, ◌*◌, ◌/◌, Bool, not, ◌&&◌, eqb, ltb, leb}
use Rattle.mesh.specs.Mesh.{start_vert, end_vert, paired_halfedge, Halfedges}
use Rattle.common.specs.Lowest.{lowest}
use Rattle.questions.specs.Questions.{has_points, has_pair, is_mutual, is_opposite, is_joined}
use Rattle.questions.specs.Check.{Checked, each, ◌then◌}
use Rattle.questions.specs.declared.Question.TheVariants.{Points, Pair, Mutual, Opposite, Joined}

-- the questions 4 to 7 at a halfedge e that starts at a, where the next one starts at b. That the pair ends at a is asked of it, whose pair is e
unfoldable pub halfedge_holds : Halfedges → ℕ → ℕ → ℕ → ℕ → Bool
halfedge_holds H n e a b =
    let pair = paired_halfedge H e in
    eqb (end_vert H e) b && (ltb pair n && (eqb (paired_halfedge H pair) e && (eqb (start_vert H pair) b && not (eqb a b))))

-- all five at the halfedges e, e + 1 and e + 2 of a triangle. That an end is a point follows from the next one's start
unfoldable pub triangle_holds : Halfedges → ℕ → ℕ → ℕ → Bool
triangle_holds H n p e =
    let a = start_vert H e in
    let b = start_vert H (e + 1) in
    let c = start_vert H (e + 2) in
    (ltb a p && (ltb b p && ltb c p))
    && (halfedge_holds H n e a b && (halfedge_holds H n (e + 1) b c && halfedge_holds H n (e + 2) c a))

-- at every triangle
abbrev pub triangles_hold : Halfedges → ℕ → ℕ → Bool
triangles_hold H n p = leb (n / 3) (lowest (λ t. triangle_holds H n p (t * 3)) (n / 3))

-- one after the other
unfoldable pub ask_each : Halfedges → ℕ → ℕ → Checked
ask_each H n p =
    each Points (has_points H p) n
    then each Pair (has_pair H n) n
    then each Mutual (is_mutual H) n
    then each Opposite (is_opposite H) n
    then each Joined (is_joined H) n
