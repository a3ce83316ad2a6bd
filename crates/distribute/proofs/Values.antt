-- Number, place, looked and turned of the answer.
use Rattle.std.proofs.Common.{◌≡◌}
use Rattle.questions.specs.Check.{Checked, answer_of}
use Rattle.questions.proofs.Answered.{checks_of, value_of_answer}
use Rattle.distribute.specs.Spread.Steps.{Steps}
use Rattle.distribute.specs.Spread.Spread.{State}
use Rattle.distribute.specs.Distribute.{Spreading, counts_of, Values}
use Rattle.distribute.specs.declared.walks.Counts.{Counts}

module _ (S : Steps) (st : State S) where
  pub values_of : (checked : Checked) {r : Spreading} → r ≡ answer_of checked (counts_of st.looked st.turned) → Values checked S st r
  values_of checked e =
      let checks = checks_of checked _ e in
      let value = value_of_answer checked _ e 0 in
      record { number = checks.number; place = checks.place; looked = value (λ (k : Counts). k.looked); turned = value (λ (k : Counts). k.turned) }
