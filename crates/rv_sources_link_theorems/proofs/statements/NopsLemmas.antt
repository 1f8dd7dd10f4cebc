-- A padding in code is instructions without effect, of four bytes each and of two at its end.

use Rattle.std.proofs.Common.{◌≡◌, ℕ, zero, suc, ◌+◌, ◌*◌, ◌/◌, ◌%◌, Bool, true, false, List, [], ◌∷◌, ◌++◌, map, refl, sym, ap, ◌∙◌, subst, arith, Some, pos, inl, inr, lit<, None}
use Rattle.std.proofs.lemmas.List.{length-replicate}
use Rattle.std.proofs.lemmas.Int.{ints}
use Rattle.std.proofs.lemmas.Bool.{leb-true, leb-false}
use Rattle.std.specs.Prelude.{nat_le, replicate, if◌then◌else◌}
use Rattle.std.specs.List.{AllByRecursion}
use Rattle.rv_isa.specs.declared.instruction.Inst.{Inst}
use Rattle.rv_isa.specs.Ranges.{IsValid}
use Rattle.rv_parcel.specs.declared.form.Compressed.TheVariants.{Nop}
use Rattle.rv_parcel.specs.Parcel.{IsShortOf}
use Rattle.rv_pseudo_laws.specs.Code.{Closed}
use Rattle.rv_pseudo_laws.specs.Filled.{FieldValue, filled}
use Rattle.rv_parcel.specs.Encoded.{IsEncodedIn}
use Rattle.rv_map_laws.specs.declared.map.Row.{Row}
use Rattle.rv_source_laws.specs.Lines.{Line, Lie, no_operation, padding_parts}
use Rattle.rv_source_laws.specs.Fits.{IsRowOf}
use Rattle.rv_chain_laws.specs.Contents.{ArePadding, AreEncoded}
use Rattle.rv_object_laws.specs.Padding.{four_each, no_operations, operations_in}
use Rattle.rv_isa_laws.specs.Arithmetic.{one_if as one_of}

-- ---- one of them

nop_valid : IsValid no_operation
nop_valid = (lit< tt, lit< tt, (omega (arith, ints), omega (arith, ints)))

nop_short : IsShortOf no_operation 1
nop_short = record {
  form = Nop (pos 0);
  spells = record { line = (omega (arith, ints), omega (arith, ints)); sum = refl };
  chosen = refl;
  same = refl;
}

in_four : IsEncodedIn no_operation 4 (0x13 ∷ 0 ∷ 0 ∷ 0 ∷ [])
in_four = inl (refl, refl)

in_two : IsEncodedIn no_operation 2 (1 ∷ 0 ∷ [])
in_two = inr (refl, (1, nop_short, refl))

-- ---- lines

-- so many of four bytes, and one of two behind them
abbrev lines_by : ℕ → ℕ → Bool → List Line
lines_by address zero true = record { address = address; bytes = 2; instruction = no_operation } ∷ []
lines_by address zero false = []
lines_by address (suc n) two = record { address = address; bytes = 4; instruction = no_operation } ∷ lines_by (address + 4) n two

abbrev pub padding_lines : ℕ → ℕ → List Line
padding_lines address bytes = lines_by address (bytes / 4) (nat_le 2 (bytes % 4))

abbrev two_of : Bool → ℕ
two_of b = if b then 2 else 0

-- the rest of an even count
rest_of : (bytes : ℕ) → bytes % 2 ≡ 0 → (bytes ≡ 4 * (bytes / 4) + two_of (nat_le 2 (bytes % 4))) × (bytes % 4 / 2 ≡ one_of (nat_le 2 (bytes % 4)))
rest_of bytes even = go (nat_le 2 (bytes % 4)) refl
  where
    go : (b : Bool) → nat_le 2 (bytes % 4) ≡ b → (bytes ≡ 4 * (bytes / 4) + two_of b) × (bytes % 4 / 2 ≡ one_of b)
    go true e = let h = leb-true 2 (bytes % 4) e in (omega (arith, even, h), omega (arith, even, h))
    go false e = let h = leb-false 2 (bytes % 4) e in (omega (arith, even, h), omega (arith, even, h))

lie_by : (address n : ℕ) (b : Bool) (stop : ℕ) → stop ≡ address + (4 * n + two_of b) → Lie address (lines_by address n b) stop
lie_by address zero true stop e = (refl, omega (arith, e))
lie_by address zero false stop e = omega (arith, e)
lie_by address (suc n) b stop e = (refl, lie_by (address + 4) n b stop (omega (arith, e)))

pub padding_lies : (address bytes : ℕ) → bytes % 2 ≡ 0 → Lie address (padding_lines address bytes) (address + bytes)
padding_lies address bytes even =
    lie_by address (bytes / 4) (nat_le 2 (bytes % 4)) (address + bytes) (ap (λ n. address + n) (rest_of bytes even).0)

sized_by : (address n : ℕ) (b : Bool) → ArePadding (lines_by address n b)
sized_by address zero true = inl refl
sized_by address zero false = tt
sized_by address (suc zero) false = inr refl
sized_by address (suc zero) true = (refl, inl refl)
sized_by address (suc (suc n)) b = (refl, sized_by (address + 4) (suc n) b)

pub padding_sized : (address bytes : ℕ) → ArePadding (padding_lines address bytes)
padding_sized address bytes = sized_by address (bytes / 4) (nat_le 2 (bytes % 4))

encoded_by : (address n : ℕ) (b : Bool) → AreEncoded None (lines_by address n b) (four_each n ++ (if b then 0x01 ∷ 0 ∷ [] else []))
encoded_by address zero true = (1 ∷ 0 ∷ [], ([], refl, in_two, refl))
encoded_by address zero false = refl
encoded_by address (suc n) b = (0x13 ∷ 0 ∷ 0 ∷ 0 ∷ [], (four_each n ++ (if b then 0x01 ∷ 0 ∷ [] else []), refl, in_four, encoded_by (address + 4) n b))

pub padding_encoded : (address bytes : ℕ) → AreEncoded None (padding_lines address bytes) (no_operations bytes)
padding_encoded address bytes = encoded_by address (bytes / 4) (nat_le 2 (bytes % 4))

-- ---- instructions

abbrev nops : ℕ → List Inst
nops n = replicate n no_operation

filled_nops : (value : FieldValue) (a n : ℕ) → filled value a (replicate n (Closed no_operation)) ≡ nops n
filled_nops value a zero = refl
filled_nops value a (suc n) = ap (λ l. no_operation ∷ l) (filled_nops value (a + 4) n)

said_by : (address n : ℕ) (b : Bool) → map (λ (l : Line). l.instruction) (lines_by address n b) ≡ nops (n + one_of b)
said_by address zero true = refl
said_by address zero false = refl
said_by address (suc n) b =
    ap (λ (l : List Inst). no_operation ∷ l) (said_by (address + 4) n b) ∙ ap nops (let e : suc (n + one_of b) ≡ suc n + one_of b = omega arith in e)

pub padding_said : (value : FieldValue) (address bytes : ℕ) → bytes % 2 ≡ 0
    → filled value address (padding_parts bytes) ≡ map (λ (l : Line). l.instruction) (padding_lines address bytes)
padding_said value address bytes even =
    filled_nops value address (bytes / 4 + bytes % 4 / 2) ∙ ap (λ n. nops (bytes / 4 + n)) (rest_of bytes even).1
    ∙ sym (said_by address (bytes / 4) (nat_le 2 (bytes % 4)))

all_valid : (n : ℕ) → AllByRecursion IsValid (nops n)
all_valid zero = tt
all_valid (suc n) = (nop_valid, all_valid n)

-- the row of a padding
pub padding_row : (value : FieldValue) (address : ℕ) (row : Row) → row.bytes % 2 ≡ 0 → row.instructions ≡ operations_in row.bytes
    → IsRowOf (Some (filled value address (padding_parts row.bytes))) row
padding_row value address row even count =
    let bytes = row.bytes in
    let n = bytes / 4 + bytes % 4 / 2 in
    subst (λ l. IsRowOf (Some l) row) (sym (filled_nops value address n)) (
      all_valid n,
      count ∙ sym (length-replicate {A = Inst} n no_operation),
      omega (arith, even, count),
      omega (arith, even, count),
      even,
    )
