-- The rule for one edge: that of `sharpen_edges` of src/smoothing_tangents.rs, and what the clean listing adds (docs/changes/06-clean-listing.md). H are the halfedges, A the face normals.
use Rattle.std.specs.Prelude.{ℕ, ◌/◌, ◌≡◌, List, Bool, true, false, cond, ◌&&◌, ◌||◌, Float}
use Rattle.std.specs.Float.{nan}
use Rattle.std.specs.Float.Ieee.{lt, neg}
use Rattle.float.specs.Ops.{lit, one}
use Rattle.float.specs.F64.{max_of, clamp_of}
use Rattle.math.specs.Acos.{acos_of}
use Rattle.linalg.specs.Vec.{is_zero, dot_of}
use Rattle.linalg.specs.declared.Vec3.{Vec3}
use Rattle.mesh.specs.Mesh.{paired_halfedge, is_forward, Halfedges}
use Rattle.mesh.specs.Scalar.{radians_of}
use Rattle.smoothing.specs.Lists.{point_at}
use Rattle.sharpen.specs.declared.edge.EdgeKind.{EdgeKind}
use Rattle.sharpen.specs.declared.edge.EdgeKind.TheVariants.{NoCrease, Crease, SliverCrease}
use Rattle.sharpen.specs.declared.edge.Rule.{Rule}
use Rattle.sharpen.specs.declared.edge.Rule.TheVariants.{Ported, Clean}

-- `min_radians`: `radians(min_sharp_angle.max(1e-4))`
unfoldable pub min_radians : Float → Float
min_radians angle = radians_of (max_of angle (lit 0x3f1a_36e2_eb1c_432d))

-- THE CLAIM: what a limit gives that is not a number. The literal is 1e-4, by its bits.
pub record NanLimit : Type 0 where
  -- it acts as 1e-4 does
  pub acts_as : min_radians nan ≡ min_radians (lit 0x3f1a_36e2_eb1c_432d)
  -- and 1e-4 acts as itself: no larger number stands in its place
  pub itself : min_radians (lit 0x3f1a_36e2_eb1c_432d) ≡ radians_of (lit 0x3f1a_36e2_eb1c_432d)

-- `dihedral`: the angle between two face normals with the dot product d
unfoldable pub dihedral_of : Float → Float
dihedral_of d = acos_of (clamp_of d (neg one) one)

-- the face normals of the two triangles at halfedge e: its own, and its pair's
abbrev pub own_normal : List Float → ℕ → Vec3
own_normal A e = point_at A (e / 3)

abbrev pub other_normal : Halfedges → List Float → ℕ → Vec3
other_normal H A e = point_at A (paired_halfedge H e / 3)

-- does the edge of halfedge e touch a face normal whose three numbers are all zero, of either sign?
abbrev pub touches_zero : Halfedges → List Float → ℕ → Bool
touches_zero H A e = is_zero (own_normal A e) || is_zero (other_normal H A e)

-- what the edge of halfedge e is: `dihedral > min_radians` makes it a crease, and its forward halfedge stands for it
unfoldable pub edge_kind : Halfedges → List Float → Float → ℕ → EdgeKind
edge_kind H A limit e =
    cond (is_forward H e && lt limit (dihedral_of (dot_of (own_normal A e) (other_normal H A e))))
    (cond (touches_zero H A e) SliverCrease Crease)
    NoCrease

-- is an edge of this kind a crease by the rule?
abbrev pub is_crease : Rule → EdgeKind → Bool
is_crease rule NoCrease = false
is_crease rule Crease = true
is_crease Ported SliverCrease = true
is_crease Clean SliverCrease = false

-- does the listing by the rule name the edge of halfedge e?
abbrev pub is_listed : Rule → Halfedges → List Float → Float → ℕ → Bool
is_listed rule H A limit e = is_crease rule (edge_kind H A limit e)
