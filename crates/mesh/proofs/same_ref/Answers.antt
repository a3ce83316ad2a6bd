-- `mesh::same_ref` meets its contract.
use Rattle.mesh.proofs.Signed.{same_bits_lem}
use Rattle.mesh.proofs.same_ref.Goals as goal

pub returns : goal.returns
returns c =
    rw (← c.number_at.ensures, ← c.number_at-2.ensures)
    (same_bits_lem c.number_at.result c.number_at-2.result c.number_at.type_inv c.number_at-2.type_inv)
