-- The line of bytes is that of the first four.

use Rattle.std.proofs.Common.{◌≡◌, ℕ, ◌-◌, ◌%◌, ◌≤◌, List, [], ◌∷◌, ◌++◌, length, take, drop, Option, sym, ap, ◌∙◌, arith, inl, inr}
use Rattle.std.specs.Prelude.{◌==◌}
use Rattle.std.proofs.lemmas.Bool.{cond-true, cond-false, cases_Bool}
use Rattle.std.proofs.lemmas.List.{length-append, drop_at, take_all}
use Rattle.rv_list_laws.proofs.NumbersLemmas.{le_true}
use Rattle.rv_isa.specs.declared.instruction.Inst.{Inst}
use Rattle.rv_isa_laws.specs.Reader.{Reader}
use Rattle.rv_isa_laws.specs.Word.{Spells}
use Rattle.rv_parcel.specs.Parcel.{StandsFor}
use Rattle.rv_listing_laws.specs.Lines.{read_whole, front}

whole_four : (count : ℕ) (four bytes : List ℕ) (found : Option Inst) → count ≤ length four → count ≤ length bytes → read_whole count four found ≡ read_whole count bytes found
whole_four count four bytes found few many =
    cond-true _ _ _ (le_true count (length four) few) ∙ sym (cond-true _ _ _ (le_true count (length bytes) many))

pub front_four : (reader : Reader Spells StandsFor) (bytes : List ℕ) → 4 ≤ length bytes → front reader (take 4 bytes) ≡ front reader bytes
front_four reader [] long = absurd (omega (arith, long))
front_four reader (a ∷ []) long = absurd (omega (arith, long))
front_four reader (a ∷ b ∷ []) long = absurd (omega (arith, long))
front_four reader (a ∷ b ∷ c ∷ []) long = absurd (omega (arith, long))
front_four reader (a ∷ b ∷ c ∷ d ∷ bytes) long =
    let four = a ∷ b ∷ c ∷ d ∷ [] in
    let all = a ∷ b ∷ c ∷ d ∷ bytes in
    elim (cases_Bool (a % 4 == 3)) [
      | inl word ↦ cond-true _ _ _ word ∙ whole_four 4 four all _ (omega arith) long ∙ sym (cond-true _ _ _ word)
      | inr parcel ↦ cond-false _ _ _ parcel ∙ whole_four 2 four all _ (omega arith) (omega (arith, long)) ∙ sym (cond-false _ _ _ parcel)
    ]

-- the bytes that a line has added to a text
pub added_line : (text new line : List ℕ) (start : ℕ) → new ≡ text ++ line → start ≡ length text → take (length new - start) (drop start new) ≡ line
added_line text new line start is at =
    let long = ap length is ∙ length-append text line in
    let rest = ap (drop start) is ∙ drop_at text line start (sym at) in
    ap (take (length new - start)) rest ∙ take_all (length new - start) line (omega (arith, long, at))
