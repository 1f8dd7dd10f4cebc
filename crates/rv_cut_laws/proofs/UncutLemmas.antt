-- Objects of which nothing is cut are as they were.

use Rattle.std.proofs.Common.{◌≡◌, ℕ, zero, suc, ◌+◌, ◌-◌, List, [], ◌∷◌, map, refl, sym, ap, ◌∙◌, arith}
use Rattle.rv_object_laws.specs.declared.symbol.Definition.{Definition}
use Rattle.rv_object_laws.specs.declared.symbol.Definition.TheVariants as definitions
use Rattle.rv_object_laws.specs.declared.row.Row.{Row}
use Rattle.rv_object_laws.specs.Object.{Section, Symbol, Object}
use Rattle.rv_link_laws.specs.Moves.{Move, new_offset}
use Rattle.rv_cut_laws.specs.Cutting.{AllCut, cut_sections, moves_at, cut_definition, cut_symbol, cut_row, cut_row_of, cut_object}
use Rattle.rv_cut_laws.proofs.ShortLemmas.{nothing_cut}
pub use Rattle.rv_cut_laws.proofs.LaidLemmas.{none_cut as no_cuts}

-- no moves in any section
abbrev pub none_in : {X : Type 0} → List X → List (List Move)
none_in xs = map (λ x. []) xs

pub none_cut : {X : Type 0} (section : X → Section) (xs : List X) → AllCut (map section xs) (none_in xs)
none_cut section [] = tt
none_cut section (x ∷ xs) = (no_cuts (section x), none_cut section xs)

pub same_sections : {X : Type 0} (section : X → Section) (xs : List X) → cut_sections (none_in xs) (map section xs) ≡ map section xs
same_sections section [] = refl
same_sections section (x ∷ xs) = ap (λ s. s ∷ cut_sections (none_in xs) (map section xs)) (nothing_cut (section x) [] refl) ∙ ap (λ ss. section x ∷ ss) (same_sections section xs)

none_at : {X : Type 0} (xs : List X) (index : ℕ) → moves_at (none_in xs) index ≡ []
none_at [] index = refl
none_at (x ∷ xs) zero = refl
none_at (x ∷ xs) (suc index) = none_at xs index

same_definition : {X : Type 0} (xs : List X) (d : Definition) → cut_definition (none_in xs) d ≡ d
same_definition xs (definitions.InSection section offset) = ap (λ ms. definitions.InSection section (new_offset ms offset)) (none_at xs section) ∙ ap (definitions.InSection section) (omega arith)
same_definition xs definitions.Undefined = refl
same_definition xs (definitions.Absolute n) = refl
same_definition xs (definitions.Skipped n) = refl

same_symbols : {X : Type 0} (xs : List X) (ss : List Symbol) → map (cut_symbol (none_in xs)) ss ≡ ss
same_symbols xs [] = refl
same_symbols xs (s ∷ ss) = ap (λ d. record s { definition = d } ∷ map (cut_symbol (none_in xs)) ss) (same_definition xs s.definition) ∙ ap (λ l. s ∷ l) (same_symbols xs ss)

row_of_none : (r : Row) → cut_row [] r ≡ r
row_of_none r =
    ap (λ n. record r { offset = n; bytes = new_offset [] (r.offset + r.bytes) - new_offset [] r.offset; instructions = r.instructions - 0 }) (omega arith)
    ∙ ap (λ n. record r { bytes = n; instructions = r.instructions - 0 }) (omega arith)
    ∙ ap (λ n. record r { instructions = n }) (omega arith)

same_rows : {X : Type 0} (xs : List X) (rs : List Row) → map (cut_row_of (none_in xs)) rs ≡ rs
same_rows xs [] = refl
same_rows xs (r ∷ rs) =
    ap (λ ms. cut_row ms r ∷ map (cut_row_of (none_in xs)) rs) (none_at xs r.section)
    ∙ ap (λ q. q ∷ map (cut_row_of (none_in xs)) rs) (row_of_none r)
    ∙ ap (λ l. r ∷ l) (same_rows xs rs)

-- an object by its sections
pub same_object : {X : Type 0} (section : X → Section) (xs : List X) (o : Object) → o.sections ≡ map section xs → cut_object (none_in xs) o ≡ o
same_object section xs o is =
    ap (λ l. record { sections = l; symbols = map (cut_symbol (none_in xs)) o.symbols; rows = map (cut_row_of (none_in xs)) o.rows; rvc = o.rvc }) (ap (cut_sections (none_in xs)) is ∙ same_sections section xs ∙ sym is)
    ∙ ap (λ l. record o { symbols = l; rows = map (cut_row_of (none_in xs)) o.rows }) (same_symbols xs o.symbols)
    ∙ ap (λ l. record o { rows = l }) (same_rows xs o.rows)
