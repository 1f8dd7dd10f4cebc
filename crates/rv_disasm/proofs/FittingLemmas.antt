-- Bytes that spell instructions, one behind another.

use Rattle.std.proofs.Common.{◌≡◌, ◌↔◌, ℕ, suc, zero, ◌+◌, ◌-◌, ◌<◌, ◌≤◌, Bool, true, false, List, [], ◌∷◌, length, drop, drop-cons, get_or, Option, Some, inl, inr, refl, sym, ap, ◌∙◌, arith}
use Rattle.std.specs.Prelude.{◌==◌, ◌&&◌, nat_le}
use Rattle.std.proofs.lemmas.List.{drop_all}
use Rattle.rv_list_laws.proofs.NumbersLemmas.{le_true, le_false}
use Rattle.rv_isa.specs.declared.instruction.Inst.{Inst}
use Rattle.rv_isa_laws.specs.Reader.{Reader}
use Rattle.rv_isa_laws.specs.Word.{Spells}
use Rattle.rv_parcel.specs.Parcel.{StandsFor}
use Rattle.rv_parcel.specs.Front.{FrontSpells}
use Rattle.rv_map_laws.specs.declared.map.Row.{Row}
use Rattle.rv_image_laws.specs.Segment.{Segment}
use Rattle.rv_listing_laws.proofs.FrontsLemmas.{front_is}
use Rattle.rv_disasm.specs.Fitting.{behind, claimed_bytes, row_fits, rows_fit, spell}

-- an instruction lies in the bytes that it begins
pub front_room : (bytes : List ℕ) (i : Inst) (n : ℕ) → FrontSpells bytes i n → n ≤ length bytes
front_room bytes i n (inl (w, four)) = omega (arith, w.room, four)
front_room bytes i n (inr (p, two)) = omega (arith, p.room, two)

-- what stands at the front of bytes tells what they spell
pub spell_more : (reader : Reader Spells StandsFor) (n : ℕ) (bytes : List ℕ) (found : Option (Inst × ℕ)) → 0 < n → ((i : Inst) (count : ℕ) → found ≡ Some (i, count) ↔ FrontSpells bytes i count) →
    spell reader n bytes ≡ behind bytes found (spell reader (n - 1))
unfolding spell
spell_more reader zero bytes found some exact = absurd (omega (arith, some))
spell_more reader (suc n) bytes found some exact =
    ap (λ seen. behind bytes seen (spell reader n)) (front_is reader bytes found exact)
    ∙ ap (λ k. behind bytes found (spell reader k)) (let e : n ≡ suc n - 1 = omega arith in e)

pub spell_end : (reader : Reader Spells StandsFor) (n : ℕ) (bytes : List ℕ) → n ≤ 0 → spell reader n bytes ≡ (length bytes == 0)
unfolding spell
spell_end reader zero bytes none = refl
spell_end reader (suc n) bytes none = absurd (omega (arith, none))

-- the first of the rows that are left, and those after it
rows_at : (reader : Reader Spells StandsFor) (ss : List Segment) (remaining : ℕ) (rows : List Row) (i : ℕ) (d : Row) → i < length rows →
    rows_fit reader ss remaining (drop i rows) ≡ rows_fit reader ss remaining (get_or rows i d ∷ drop (i + 1) rows)
rows_at reader ss remaining rows i d inside =
    ap (rows_fit reader ss remaining) (drop-cons rows i d inside)
    ∙ ap (λ n. rows_fit reader ss remaining (get_or rows i d ∷ drop n rows)) (let e : suc i ≡ i + 1 = omega arith in e)

first_row : (reader : Reader Spells StandsFor) (ss : List Segment) (remaining : ℕ) (row : Row) (rows : List Row) →
    rows_fit reader ss remaining (row ∷ rows) ≡ (nat_le (claimed_bytes row) remaining && row_fits reader ss row && rows_fit reader ss (remaining - claimed_bytes row) rows)
unfolding rows_fit
first_row reader ss remaining row rows = refl

pub rows_over : (reader : Reader Spells StandsFor) (ss : List Segment) (rows : List Row) (i : ℕ) (d : Row) (remaining bytes : ℕ) → i < length rows → bytes ≡ claimed_bytes (get_or rows i d) → remaining < bytes →
    false ≡ rows_fit reader ss remaining (drop i rows)
rows_over reader ss rows i d remaining bytes inside is over =
    let row = get_or rows i d in
    let others = rows_fit reader ss (remaining - claimed_bytes row) (drop (i + 1) rows) in
    sym (rows_at reader ss remaining rows i d inside ∙ first_row reader ss remaining row (drop (i + 1) rows)
    ∙ ap (λ b. b && row_fits reader ss row && others) (ap (λ n. nat_le n remaining) (sym is) ∙ le_false bytes remaining over))

pub rows_unfit : (reader : Reader Spells StandsFor) (ss : List Segment) (rows : List Row) (i : ℕ) (d : Row) (remaining bytes : ℕ) (fit : Bool) → i < length rows → bytes ≡ claimed_bytes (get_or rows i d) → bytes ≤ remaining →
    fit ≡ row_fits reader ss (get_or rows i d) → fit ≡ false → false ≡ rows_fit reader ss remaining (drop i rows)
rows_unfit reader ss rows i d remaining bytes fit inside is room same unfit =
    let row = get_or rows i d in
    let others = rows_fit reader ss (remaining - claimed_bytes row) (drop (i + 1) rows) in
    sym (rows_at reader ss remaining rows i d inside ∙ first_row reader ss remaining row (drop (i + 1) rows)
    ∙ ap (λ b. b && row_fits reader ss row && others) (ap (λ n. nat_le n remaining) (sym is) ∙ le_true bytes remaining room)
    ∙ ap (λ b. b && others) (sym same ∙ unfit))

pub rows_more : (reader : Reader Spells StandsFor) (ss : List Segment) (rows : List Row) (i : ℕ) (d : Row) (remaining bytes : ℕ) (fit : Bool) → i < length rows → bytes ≡ claimed_bytes (get_or rows i d) → bytes ≤ remaining →
    fit ≡ row_fits reader ss (get_or rows i d) → fit ≡ true → rows_fit reader ss (remaining - bytes) (drop (i + 1) rows) ≡ rows_fit reader ss remaining (drop i rows)
rows_more reader ss rows i d remaining bytes fit inside is room same fits =
    let row = get_or rows i d in
    let others = rows_fit reader ss (remaining - claimed_bytes row) (drop (i + 1) rows) in
    ap (λ n. rows_fit reader ss (remaining - n) (drop (i + 1) rows)) is
    ∙ sym (rows_at reader ss remaining rows i d inside ∙ first_row reader ss remaining row (drop (i + 1) rows)
    ∙ ap (λ b. b && row_fits reader ss row && others) (ap (λ n. nat_le n remaining) (sym is) ∙ le_true bytes remaining room)
    ∙ ap (λ b. b && others) (sym same ∙ fits))

no_rows : (reader : Reader Spells StandsFor) (ss : List Segment) (remaining : ℕ) → true ≡ rows_fit reader ss remaining []
unfolding rows_fit
no_rows reader ss remaining = refl

pub rows_end : (reader : Reader Spells StandsFor) (ss : List Segment) (rows : List Row) (i remaining : ℕ) → length rows ≤ i → true ≡ rows_fit reader ss remaining (drop i rows)
rows_end reader ss rows i remaining ended = no_rows reader ss remaining ∙ ap (rows_fit reader ss remaining) (sym (drop_all i rows ended))
