-- The instruction at the front of bytes, by the relation and by a reader.

use Rattle.std.proofs.Common.{◌≡◌, ℕ, ◌%◌, ◌≤◌, true, false, List, length, Option, Some, None, refl, sym, ap, ◌∙◌, arith, inl, inr}
use Rattle.std.specs.Prelude.{◌↔◌, ◌==◌, nat_le, slice_index}
use Rattle.std.proofs.lemmas.Option.{some_pair_parts}
use Rattle.std.proofs.lemmas.Bool.{cond-true, cond-false, cases_Bool}
use Rattle.std.proofs.lemmas.Bool.Decides.{nat_tests}
use Rattle.rv_list_laws.proofs.NumbersLemmas.{le_true}
use Rattle.rv_isa.specs.declared.instruction.Inst.{Inst}
use Rattle.rv_isa_laws.specs.Reader.{Reader}
use Rattle.rv_isa_laws.specs.Word.{Spells}
use Rattle.rv_parcel.specs.Parcel.{StandsFor}
use Rattle.rv_parcel.specs.Front.{FrontSpells, front_word, front_parcel}
use Rattle.rv_listing_laws.specs.Lines.{read_whole, front}

begins_word : (b : ℕ) → b % 4 ≡ 3 → (b % 4 == 3) ≡ true
begins_word b h = grind (arith, nat_tests)

begins_parcel : (b : ℕ) → (b % 4 ≡ 3 → ⊥) → (b % 4 == 3) ≡ false
begins_parcel b h = grind (arith, nat_tests)

is_word : (b : ℕ) → (b % 4 == 3) ≡ true → b % 4 ≡ 3
is_word b h = grind (arith, nat_tests)

is_parcel : (b : ℕ) → (b % 4 == 3) ≡ false → b % 4 ≡ 3 → ⊥
is_parcel b h e = grind (arith, nat_tests)

true_le : (m n : ℕ) → nat_le m n ≡ true → m ≤ n
true_le m n h = grind (arith, nat_tests)

whole_from : (count : ℕ) (bytes : List ℕ) (found : Option Inst) (i : Inst) → count ≤ length bytes → found ≡ Some i → read_whole count bytes found ≡ Some (i, count)
whole_from count bytes found i room is =
    ap (λ f. read_whole count bytes f) is ∙ cond-true _ _ _ (le_true count (length bytes) room)

whole_some : (count : ℕ) (bytes : List ℕ) (found : Option Inst) (i : Inst) (n : ℕ) → read_whole count bytes found ≡ Some (i, n) → (count ≤ length bytes) × (found ≡ Some i) × (n ≡ count)
whole_some count bytes None i n h = elim (cases_Bool (nat_le count (length bytes))) [
  | inl all ↦ let none = sym (cond-true _ _ _ all) ∙ h in absurd (cc)
  | inr few ↦ let none = sym (cond-false _ _ _ few) ∙ h in absurd (cc)
]
whole_some count bytes (Some j) i n h = elim (cases_Bool (nat_le count (length bytes))) [
  | inl all ↦
      let parts = some_pair_parts j i count n (sym (cond-true _ _ _ all) ∙ h) in
      (true_le count (length bytes) all, ap Some parts.0, sym parts.1)
  | inr few ↦ let none = sym (cond-false _ _ _ few) ∙ h in absurd (cc)
]

-- what the front spells the reader finds
pub spelled_front : (reader : Reader Spells StandsFor) (bytes : List ℕ) (i : Inst) (n : ℕ) → FrontSpells bytes i n → front reader bytes ≡ Some (i, n)
spelled_front reader bytes i n (inl (w, four)) =
    cond-true _ _ _ (begins_word (slice_index bytes 0) w.begins)
    ∙ whole_from 4 bytes (reader.word (front_word bytes)) i w.room ((reader.words (front_word bytes) i).1 w.spells)
    ∙ ap (λ k. Some (i, k)) (sym four)
spelled_front reader bytes i n (inr (p, two)) =
    cond-false _ _ _ (begins_parcel (slice_index bytes 0) p.begins)
    ∙ whole_from 2 bytes (reader.parcel (front_parcel bytes)) i p.room ((reader.parcels (front_parcel bytes) i).1 p.stands)
    ∙ ap (λ k. Some (i, k)) (sym two)

-- what the reader finds the front spells
front_spelled : (reader : Reader Spells StandsFor) (bytes : List ℕ) (i : Inst) (n : ℕ) → front reader bytes ≡ Some (i, n) → FrontSpells bytes i n
front_spelled reader bytes i n h = elim (cases_Bool (slice_index bytes 0 % 4 == 3)) [
  | inl word ↦
      let parts = whole_some 4 bytes (reader.word (front_word bytes)) i n (sym (cond-true _ _ _ word) ∙ h) in
      inl (record { begins = is_word (slice_index bytes 0) word; room = parts.0; spells = (reader.words (front_word bytes) i).0 parts.1 }, parts.2)
  | inr parcel ↦
      let parts = whole_some 2 bytes (reader.parcel (front_parcel bytes)) i n (sym (cond-false _ _ _ parcel) ∙ h) in
      inr (record { begins = is_parcel (slice_index bytes 0) parcel; room = parts.0; stands = (reader.parcels (front_parcel bytes) i).0 parts.1 }, parts.2)
]

-- what is found exactly where the front spells it is what the reader finds
pub front_is : (reader : Reader Spells StandsFor) (bytes : List ℕ) (found : Option (Inst × ℕ)) →
    ((i : Inst) (n : ℕ) → found ≡ Some (i, n) ↔ FrontSpells bytes i n) → front reader bytes ≡ found
front_is reader bytes (Some (i, n)) exact = spelled_front reader bytes i n ((exact i n).0 refl)
front_is reader bytes None exact = go (front reader bytes) refl
  where
    go : (seen : Option (Inst × ℕ)) → front reader bytes ≡ seen → seen ≡ None
    go None h = refl
    go (Some (i, n)) h = sym ((exact i n).1 (front_spelled reader bytes i n h))

-- an instruction has 2 bytes or 4
pub front_count : (bytes : List ℕ) (i : Inst) (n : ℕ) → FrontSpells bytes i n → (1 ≤ n) × (n ≤ 4)
front_count bytes i n (inl (w, four)) = (omega (arith, four), omega (arith, four))
front_count bytes i n (inr (p, two)) = (omega (arith, two), omega (arith, two))
