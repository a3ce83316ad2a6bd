-- What a case asks, and what the definitions say at the lists of a call, `ShapeLists`. Only contracts of functions inside the making cite these.
use Rattle.std.specs.Prelude.{ℕ, ◌<◌, length}
use Rattle.mesh.specs.Mesh.{Halfedges, as_halfedges}
use Rattle.smoothing.specs.Faces.{is_flat}
use Rattle.create_shared.specs.Makings.{Tangents}
use Rattle.create.specs.declared.creases.Crease.{Crease}
use Rattle.create.specs.declared.creases.Crease.TheVariants.{NoCrease, OneEnd, Through, Meeting}
use Rattle.create.specs.Creases.Lists.{pairs_by}
use Rattle.create.specs.declared.shapes.shape_lists.ShapeLists.{ShapeLists}
use Rattle.create.specs.Shapes.Shapes.{shape_crease, shape_vert, shape_verts, vert_directionless, creases_directionless}

-- the halfedges that a case names are halfedges
abbrev pub CreaseIn : ℕ → ℕ → Crease → Type 0
CreaseIn n first NoCrease = Unit {0}
CreaseIn n first OneEnd = Unit {0}
CreaseIn n first (Through a b between beyond) = (a < n) × (b < n)
CreaseIn n first (Meeting mean) = first < n

abbrev pub mesh_of : ShapeLists → Halfedges
mesh_of l = as_halfedges l.creases.h.now

-- ---- a point, and all points

-- where `first` is both the point's lowest halfedge and that of its first pair: a case that reads one of them has it
abbrev pub shape_crease_by : ShapeLists → ℕ → Tangents → Crease → Tangents
shape_crease_by l first m k = shape_crease (mesh_of l) l.pos.now (is_flat l.flat.now) l.creases.n first first m k

abbrev pub shape_vert_by : ShapeLists → Tangents → ℕ → Tangents
shape_vert_by l m v = shape_vert (mesh_of l) l.pos.now (is_flat l.flat.now) l.creases.n (pairs_by l.creases) m v

abbrev pub shape_verts_by : ShapeLists → Tangents → Tangents
shape_verts_by l m = shape_verts (mesh_of l) l.pos.now (is_flat l.flat.now) l.creases.n (pairs_by l.creases) (length l.creases.at.now) m

-- ---- what they count

abbrev pub vert_count : ShapeLists → ℕ → ℕ
vert_count l v = vert_directionless (mesh_of l) l.pos.now (pairs_by l.creases) v

abbrev pub verts_count : ShapeLists → ℕ
verts_count l = creases_directionless (mesh_of l) l.pos.now (pairs_by l.creases) (length l.creases.at.now)
