-- `tangents_c::put_answer` meets its contract. Assumes nothing.
use Rattle.tangents_c.specs.Answers.{put}
use Rattle.tangents_c.proofs.put_answer.Goals as goal

pub returns : goal.returns
unfolding put
returns g c =
    rw (c.put_at-4.ensures, c.put_at-3.ensures, c.put_at-2.ensures, c.place_of-place.ensures, c.put_at.ensures, c.number_of-number.ensures)
