-- One more read into the rest of a buffer whose front holds what was read before. Assumes nothing.
use Rattle.std.proofs.Common.{◌≡◌, ℕ, ◌+◌, ◌≤◌, List, ◌++◌, length, take, sym, ap, subst, ◌∙◌, le_refl, length-take-le}
use Rattle.std.proofs.lemmas.List.{take-append-le}
use Rattle.std.proofs.lemmas.Slice.{take-put_mid_below}
use Rattle.std.proofs.Math.Seq.{take-append-add}
use Rattle.std.proofs.KnownBytes.{Consumes-trans, Consumes-kept}
use Rattle.std.specs.declared.option.Option.{Option}
use Rattle.std.specs.Io.KnownBytes.{Consumes, Keeps}
use borrow.Rule.Slice.PartMut.{put_mid, post_of}

module _ (a b c : Option (List ℕ)) (at k : ℕ) (buf part : List ℕ) (within : at ≤ length buf) (before : Consumes a b (take at buf)) where
  pub read_again : (n : ℕ) → n ≤ length part → Consumes b c (take n part) → Consumes a c (take (at + n) (put_mid at k buf part))
  read_again n fits read =
      let long : length (take at buf) ≡ at = length-take-le at buf within in
      let rest = part ++ post_of at k buf in
      let front : take (at + n) (take at buf ++ rest) ≡ take at buf ++ take n part =
      ap (λ m. take (m + n) (take at buf ++ rest)) (sym long) ∙ take-append-add (take at buf) rest n ∙ ap (λ l. take at buf ++ l) (take-append-le n part _ fits) in
      subst (Consumes a c) (sym front) (Consumes-trans a b c _ _ before read)

  pub read_failed : Keeps b c → Consumes a c (take at (put_mid at k buf part))
  read_failed kept = subst (Consumes a c) (sym (take-put_mid_below at k buf part at (le_refl at) within)) (Consumes-kept a b c _ before kept)
