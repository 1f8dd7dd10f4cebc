-- Bytes begin with one instruction at most that a source can say.

use Rattle.std.proofs.Common.{◌≡◌, ◌≢◌, ℕ, ◌+◌, ◌*◌, ◌/◌, ◌%◌, ◌^◌, ◌<◌, ◌≤◌, true, List, [], ◌∷◌, ◌++◌, length, drop, slice_index, Some, None, sym, ap, ◌∙◌, subst, arith}
use Rattle.std.proofs.lemmas.List.{append_cancel_left}
use Rattle.std.proofs.lemmas.Option.{none-some, same_Some}
use Rattle.rv_isa.specs.declared.instruction.Inst.{Inst}
use Rattle.rv_isa.specs.Operations.{format_of}
use Rattle.rv_isa.specs.Ranges.{IsValid}
use Rattle.rv_isa_laws.specs.Bytes.{little_endian}
use Rattle.rv_isa_laws.specs.Word.{form, word, Spells}
use Rattle.rv_isa_laws.proofs.ReaderLemmas.{word_read-exact}
use Rattle.rv_parcel.specs.declared.form.Compressed.{Compressed}
use Rattle.rv_parcel.specs.Parcel.{parcel, IsLine, IsNoHint, SpellsForm}
use Rattle.rv_parcel.specs.Front.{front_parcel, front_word}
use Rattle.rv_listing_laws.specs.declared.code.Code.{Code}
use Rattle.rv_listing_laws.specs.declared.code.Code.TheVariants.{Word, Parcel}
use Rattle.rv_listing_laws.specs.Raw.{raw_bytes, has_source, IsSourced}
use Rattle.rv_disasm.specs.RawParts.{IsFront}
use Rattle.rv_disasm.proofs.OneFormLemmas.{one_form}

-- ---- what stands at the front of bytes

pub record BeginsWord (bytes : List ℕ) (i : Inst) : Type 0 where
  pub begins : slice_index bytes 0 % 4 ≡ 3
  pub room : 4 ≤ length bytes
  pub spells : Spells (front_word bytes) i

pub record BeginsParcel (bytes : List ℕ) (c : Compressed) : Type 0 where
  pub begins : slice_index bytes 0 % 4 ≢ 3
  pub room : 2 ≤ length bytes
  pub spells : SpellsForm (front_parcel bytes) c

begins_word : (i : Inst) (bytes rest : List ℕ) → IsValid i → bytes ≡ little_endian 4 (word (form i)) ++ rest → BeginsWord bytes i
begins_word i bytes rest valid same = subst (λ b. BeginsWord b i) (sym same) (record { begins = grind arith; room = omega arith; spells = record { valid = valid; sum = grind arith } })

begins_parcel : (c : Compressed) (bytes rest : List ℕ) → IsLine c → bytes ≡ little_endian 2 (parcel c) ++ rest → BeginsParcel bytes c
begins_parcel c bytes rest line same = subst (λ b. BeginsParcel b c) (sym same) (record { begins = grind arith; room = omega arith; spells = record { line = line; sum = grind arith } })

-- ---- one instruction

one_word : (w : ℕ) (i j : Inst) → Spells w i → Spells w j → i ≡ j
one_word w i j s t = same_Some i j (sym ((word_read-exact w i).1 s) ∙ (word_read-exact w j).1 t)

pub one_code : (bytes r s : List ℕ) (c d : Code) → IsSourced c → IsSourced d → bytes ≡ raw_bytes c ++ r → bytes ≡ raw_bytes d ++ s → c ≡ d
one_code bytes r s (Word i) (Word j) (v, f) (w, g) e h =
    ap (λ k. Word k) (one_word (front_word bytes) i j (begins_word i bytes r v e).spells (begins_word j bytes s w h).spells)
one_code bytes r s (Word i) (Parcel d) (v, f) (l, n) e h = absurd ((begins_parcel d bytes s l h).begins (begins_word i bytes r v e).begins)
one_code bytes r s (Parcel c) (Word j) (l, n) (w, g) e h = absurd ((begins_parcel c bytes r l e).begins (begins_word j bytes s w h).begins)
one_code bytes r s (Parcel c) (Parcel d) (l, n) (k, m) e h =
    ap (λ x. Parcel x) (one_form (front_parcel bytes) c d (begins_parcel c bytes r l e).spells n (begins_parcel d bytes s k h).spells m)

-- and what is left behind it
pub same_rest : (c d : Code) (r s : List ℕ) → c ≡ d → raw_bytes c ++ r ≡ raw_bytes d ++ s → r ≡ s
same_rest c d r s is e = append_cancel_left (raw_bytes c) r s (e ∙ ap (λ k. raw_bytes k ++ s) (sym is))

-- ---- what a function finds

some_front : (bytes rest : List ℕ) (c : Code) → IsSourced c → bytes ≡ raw_bytes c ++ rest → IsFront (Some c) bytes
some_front bytes rest c sourced same d = (
  λ e. subst (λ k. IsSourced k × ((r : List ℕ) × (bytes ≡ raw_bytes k ++ r))) (same_Some c d e) (sourced, (rest, same)),
  λ f. ap (λ k. Some k) (one_code bytes rest f.1.0 c d sourced f.0 same f.1.1),
)

no_front : (bytes : List ℕ) → ((c : Code) (rest : List ℕ) → IsSourced c → bytes ≡ raw_bytes c ++ rest → ⊥) → IsFront None bytes
no_front bytes never d = (λ e. absurd (none-some d e), λ f. absurd (never d f.1.0 f.0 f.1.1))

-- at bytes that begin a word
pub no_word : (bytes : List ℕ) → slice_index bytes 0 % 4 ≡ 3 → ((i : Inst) → 4 ≤ length bytes → Spells (front_word bytes) i → has_source (format_of i) ≡ true → ⊥) → IsFront None bytes
no_word bytes begins never = no_front bytes go
  where
    go : (c : Code) (rest : List ℕ) → IsSourced c → bytes ≡ raw_bytes c ++ rest → ⊥
    go (Word i) rest (v, f) same = let b = begins_word i bytes rest v same in never i b.room b.spells f
    go (Parcel c) rest (l, n) same = (begins_parcel c bytes rest l same).begins begins

four : (a b c d : ℕ) → a < 256 → b < 256 → c < 256 → d < 256 →
    (a ≡ (a + b * 2 ^ 8 + c * 2 ^ 16 + d * 2 ^ 24) % 256)
    × (b ≡ (a + b * 2 ^ 8 + c * 2 ^ 16 + d * 2 ^ 24) / 256 % 256)
    × (c ≡ (a + b * 2 ^ 8 + c * 2 ^ 16 + d * 2 ^ 24) / 256 / 256 % 256)
    × (d ≡ (a + b * 2 ^ 8 + c * 2 ^ 16 + d * 2 ^ 24) / 256 / 256 / 256 % 256)
four a b c d p q r s = (omega arith, omega arith, omega arith, omega arith)

four_more : (a b c d e f g h : ℕ) (rest : List ℕ) → a ≡ e → b ≡ f → c ≡ g → d ≡ h → a ∷ b ∷ c ∷ d ∷ rest ≡ e ∷ f ∷ g ∷ h ∷ rest
four_more a b c d e f g h rest p q r s = cc

word_back : (bytes : List ℕ) → 4 ≤ length bytes → ((k : ℕ) → slice_index bytes k < 256) → bytes ≡ little_endian 4 (front_word bytes) ++ drop 4 bytes
word_back [] room low = absurd (omega (arith, room))
word_back (a ∷ []) room low = absurd (omega (arith, room))
word_back (a ∷ b ∷ []) room low = absurd (omega (arith, room))
word_back (a ∷ b ∷ c ∷ []) room low = absurd (omega (arith, room))
word_back (a ∷ b ∷ c ∷ d ∷ rest) room low =
    let f = four a b c d (low 0) (low 1) (low 2) (low 3) in four_more a b c d _ _ _ _ rest f.0 f.1 f.2 f.3

two : (a b : ℕ) → a < 256 → b < 256 → (a ≡ (a + b * 2 ^ 8) % 256) × (b ≡ (a + b * 2 ^ 8) / 256 % 256)
two a b p q = (omega arith, omega arith)

two_more : (a b e f : ℕ) (rest : List ℕ) → a ≡ e → b ≡ f → a ∷ b ∷ rest ≡ e ∷ f ∷ rest
two_more a b e f rest p q = cc

parcel_back : (bytes : List ℕ) → 2 ≤ length bytes → ((k : ℕ) → slice_index bytes k < 256) → bytes ≡ little_endian 2 (front_parcel bytes) ++ drop 2 bytes
parcel_back [] room low = absurd (omega (arith, room))
parcel_back (a ∷ []) room low = absurd (omega (arith, room))
parcel_back (a ∷ b ∷ rest) room low = let f = two a b (low 0) (low 1) in two_more a b _ _ rest f.0 f.1

pub some_word : (bytes : List ℕ) (i : Inst) → 4 ≤ length bytes → ((k : ℕ) → slice_index bytes k < 256) → Spells (front_word bytes) i → has_source (format_of i) ≡ true → IsFront (Some (Word i)) bytes
some_word bytes i room low s sourced =
    some_front bytes (drop 4 bytes) (Word i) (s.valid, sourced) (word_back bytes room low ∙ ap (λ w. little_endian 4 w ++ drop 4 bytes) (sym s.sum))

pub some_parcel : (bytes : List ℕ) (c : Compressed) → 2 ≤ length bytes → ((k : ℕ) → slice_index bytes k < 256) → SpellsForm (front_parcel bytes) c → IsNoHint c → IsFront (Some (Parcel c)) bytes
some_parcel bytes c room low s n =
    some_front bytes (drop 2 bytes) (Parcel c) (s.line, n) (parcel_back bytes room low ∙ ap (λ q. little_endian 2 q ++ drop 2 bytes) (sym s.sum))
