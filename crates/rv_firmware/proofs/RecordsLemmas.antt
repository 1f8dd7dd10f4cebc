-- The records of lines, in Intel HEX.

use Rattle.std.proofs.Common.{◌≡◌, ◌∙◌, ℕ, ◌+◌, ◌*◌, ◌/◌, ◌%◌, ◌==◌, ◌≤◌, Bool, true, false, List, [], ◌∷◌, ◌++◌, length, ap, sym, refl, arith, if◌then◌else◌}
use Rattle.std.specs.List.{list_all}
use Rattle.std.proofs.lemmas.Bool.{and_parts, and_from, eqb-true, le-leb, leb-true}
use Rattle.std.proofs.lemmas.List.Folds.{list_all-append}
use Rattle.rv_firmware.specs.Blocks.{Block, cells_from, cells_of, is_line}
use Rattle.rv_firmware.specs.IntelHex.{HexRecord, line_records, base_record, data_record, loaded, is_record, records_from, number_of_pair, pair}

pair_number : (n : ℕ) → number_of_pair (pair n) ≡ n
unfolding number_of_pair
pair_number n = omega arith

-- where data is put whose base is its own
data_loaded : (upper : ℕ) (b : Block) (rs : List HexRecord) → upper ≡ b.address / 65536 →
    loaded (65536 * upper) (data_record b ∷ rs) ≡ cells_from b.address b.bytes ++ loaded (65536 * upper) rs
unfolding loaded
data_loaded upper b rs h =
    let place : 65536 * upper + b.address % 65536 ≡ b.address = omega (arith, h) in
    ap (λ a. cells_from a b.bytes ++ loaded (65536 * upper) rs) place

base_loaded : (base upper : ℕ) (rs : List HexRecord) → loaded base (base_record upper ∷ rs) ≡ loaded (65536 * upper) rs
unfolding loaded
base_loaded base upper rs = ap (λ n. loaded (65536 * n) rs) (pair_number upper)

-- the records of a line put its bytes where they belong, whatever the base was
line_loaded : (upper : ℕ) (b : Block) (rs : List HexRecord) →
    loaded (65536 * upper) (line_records upper b ++ rs)
    ≡ cells_from b.address b.bytes ++ loaded (65536 * (b.address / 65536)) rs
line_loaded upper b rs = go (b.address / 65536 == upper) refl
  where
    go : (same : Bool) → (b.address / 65536 == upper) ≡ same →
        loaded (65536 * upper) ((if same then [] else base_record (b.address / 65536) ∷ []) ++ data_record b ∷ [] ++ rs)
        ≡ cells_from b.address b.bytes ++ loaded (65536 * (b.address / 65536)) rs
    go true h =
        let is : b.address / 65536 ≡ upper = eqb-true (b.address / 65536) upper h in
        data_loaded upper b rs (sym is) ∙ ap (λ n. cells_from b.address b.bytes ++ loaded (65536 * n) rs) (sym is)
    go false h = base_loaded (65536 * upper) (b.address / 65536) (data_record b ∷ rs) ∙ data_loaded (b.address / 65536) b rs refl

pub records_loaded : (upper : ℕ) (bs : List Block) → loaded (65536 * upper) (records_from upper bs) ≡ cells_of bs
unfolding records_from loaded
records_loaded upper [] = refl
records_loaded upper (b ∷ bs) =
    line_loaded upper b (records_from (b.address / 65536) bs)
    ∙ ap (λ cs. cells_from b.address b.bytes ++ cs) (records_loaded (b.address / 65536) bs)

-- all are records
fits_page : (a n : ℕ) → a % 16 + n ≤ 16 → a % 65536 + n ≤ 65536
fits_page a n h = omega (arith, h)

line_records_fit : (upper : ℕ) (b : Block) → is_line b ≡ true → list_all is_record (line_records upper b) ≡ true
line_records_fit upper b h =
    let room : b.address % 16 + length b.bytes ≤ 16 = leb-true (b.address % 16 + length b.bytes) 16 h in
    let own : is_record (data_record b) ≡ true = and_from _ _
    (le-leb (b.address % 65536 + length b.bytes) 65536 (fits_page b.address (length b.bytes) room))
    (le-leb (length b.bytes) 255 (omega (arith, room))) in
    go (b.address / 65536 == upper) own
  where
    go : (same : Bool) → is_record (data_record b) ≡ true →
        list_all is_record ((if same then [] else base_record (b.address / 65536) ∷ []) ++ data_record b ∷ []) ≡ true
    go true own = and_from _ _ own refl
    go false own = and_from _ _ refl (and_from _ _ own refl)

pub records_fit : (upper : ℕ) (bs : List Block) → list_all is_line bs ≡ true → list_all is_record (records_from upper bs) ≡ true
unfolding records_from
records_fit upper [] h = refl
records_fit upper (b ∷ bs) h =
    let both = and_parts (is_line b) (list_all is_line bs) h in
    list_all-append is_record (line_records upper b) (records_from (b.address / 65536) bs)
    ∙ and_from _ _ (line_records_fit upper b both.0) (records_fit (b.address / 65536) bs both.1)
