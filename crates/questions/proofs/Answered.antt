-- What the answer of a call says: number and place are those of its questions, and each value is that of an accepted call. Assumes nothing.
use Rattle.std.proofs.Common.{◌≡◌, refl, Ok, Err}
use Rattle.std.specs.Prelude.{Result}
use Rattle.questions.specs.Check.{Checked, answer_of, when_accepted, value_or, Values}
use Rattle.questions.specs.declared.Refusal.{Refusal}

checks_are : {A : Type 0} (checked : Checked) (a : A) → Values checked (answer_of checked a)
checks_are (Ok tt) a = record { number = refl; place = refl }
checks_are (Err refusal) a = record { number = refl; place = refl }

value_is : {A B : Type 0} (none : B) (value : A → B) (checked : Checked) (a : A) → value_or none value (answer_of checked a) ≡ when_accepted checked (value a) none
value_is none value (Ok tt) a = refl
value_is none value (Err refusal) a = refl

module _ {A : Type 0} (checked : Checked) (a : A) {r : Result A Refusal} (e : r ≡ answer_of checked a) where
  pub checks_of : Values checked r
  checks_of = rw e (checks_are checked a)

  pub value_of_answer : {B : Type 0} (none : B) (value : A → B) → value_or none value r ≡ when_accepted checked (value a) none
  value_of_answer none value = rw e (value_is none value checked a)
