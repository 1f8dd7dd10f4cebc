-- The instructions of a raw listing and the place of its entry: their statements, and what is known of each where it stands.

use Rattle.std.proofs.Common.{◌≡◌, ℕ, inl, inr, Bool, true, false, List, [], ◌∷◌, map, Option, Some, option_map, option_and_then, refl, sym, ◌∙◌, ap, subst}
use Rattle.std.specs.Prelude.{⊤, unwrap_or, codes}
use Rattle.std.specs.List.{AllByRecursion, find}
use Rattle.rv_isa_laws.specs.Arithmetic.{wrapped}
use Rattle.rv_parcel.specs.declared.form.Compressed.{Compressed}
use Rattle.rv_expression_laws.specs.Expression.{Here}
use Rattle.rv_expression_laws.specs.Values.{Open, Symbolic, add}
use Rattle.rv_map_laws.specs.Map.{Map}
use Rattle.rv_map_laws.specs.declared.map.Row.{Row}
use Rattle.rv_statement_laws.specs.Statement.{StatementKind, Label}
use Rattle.rv_pseudo_laws.specs.Code.{Part}
use Rattle.rv_unit_laws.specs.Bindings.{bindings_of}
use Rattle.rv_unit_laws.specs.Tables.{opened_of, stands, meaning, tables}
use Rattle.rv_source_laws.specs.Program.{MaybeMapped, Program, program, address_of, address_at, address, tables_in, resolved, form as form_in_file, place_of}
use Rattle.rv_source_laws.specs.Lines.{Line, form_at}
use Rattle.rv_listing_laws.specs.declared.code.Code.{Code}
use Rattle.rv_listing_laws.specs.Raw.{IsSourced, raw_bytes}
use Rattle.rv_chain_laws.specs.Contents.{HasSizes, AreEncoded, IsWritten}
use Rattle.rv_raw_theorems.specs.Statements.{code_statement, from_dot}
use Rattle.rv_raw_theorems.proofs.PrintedValuesLemmas.{number_constant, distance_value}
use Rattle.rv_raw_theorems.proofs.WrittenCodesLemmas.{Told, IsFullCode, code_kind, code_written}
use Rattle.rv_raw_theorems.proofs.StatementPlacesLemmas.{IsPlaced, source_of, Turns, site, has_ordinal, IsFound}

pub data Step : Type 0 where
  A_code : (code : Code) → Step
  The_entry : Step

abbrev pub kind_of : Step → StatementKind
kind_of (A_code code) = code_statement code
kind_of The_entry = Label (codes "_start")

abbrev pub bytes_at : Step → List ℕ
bytes_at (A_code code) = raw_bytes code
bytes_at The_entry = []

-- a source can say it
abbrev pub IsSpoken : Step → Type 0
IsSpoken (A_code code) = IsSourced code
IsSpoken The_entry = ⊤

abbrev pub kinds_of : List Step → List StatementKind
kinds_of steps = map kind_of steps

pub step_placed : (step : Step) → IsPlaced (kind_of step)
step_placed (A_code code) = inl (code_kind code)
step_placed The_entry = inr (codes "_start", refl)

pub all_placed : (steps : List Step) → AllByRecursion IsPlaced (kinds_of steps)
all_placed [] = tt
all_placed (s ∷ ss) = (step_placed s, all_placed ss)

-- ---- what expressions are worth at a place

module _ (ks : List StatementKind) (m : Map) (turns : Turns (bindings_of (source_of ks)) (tables (source_of ks))) where
  abbrev p : Program
  p = program (source_of ks ∷ []) m

  pub told : (n line : ℕ) (k : StatementKind) (r : Row) → address_at p.statements 1 n ≡ Some r.address → Told p (site n line k r)
  told n line k r at = record {
    constant = λ z small. number_constant (λ q. meaning (tables_in p 1) true n (place_of (site n line k r).located) q) z small;
    target = λ z small.
        let s = site n line k r in
        let here : meaning (tables_in p 1) true n (place_of s.located) Here ≡ Open = ap (λ t. stands (opened_of t) (place_of s.located)) turns.1 in
        let says : form_in_file p s.located (from_dot z) ≡ Symbolic Here Open (wrapped z) =
        distance_value (λ q. meaning (tables_in p 1) true n (place_of s.located) q) 0 0 z small (inr here) ∙ ap (λ a. Symbolic Here a (wrapped z)) here in
        let there : address p s.located Here ≡ Some (add r.address 0) = ap (option_map (λ a. add a 0)) at in
        ap (λ v. unwrap_or (resolved (λ q. address p s.located q) v) 0) says
        ∙ ap (λ o. unwrap_or (option_map (λ x. add x (wrapped z)) o) 0) there;
  }

  pub at_seat : (es : List MaybeMapped) (n line : ℕ) (k : StatementKind) (r : Row) → p.statements ≡ es → IsFound 4 es (site n line k r) → address_at p.statements 1 n ≡ Some r.address
  at_seat es n line k r are found = ap (λ xs. option_and_then address_of (find (has_ordinal n) xs)) are ∙ ap (option_and_then address_of) found.1

-- ---- the bytes of each

abbrev pub IsFullStep : Step → ℕ → Type 0
IsFullStep (A_code code) n = IsFullCode code n
IsFullStep step n = ⊤

no_lines : (named : Option Compressed) (rvc : Bool) (ps : List Part) (name : List ℕ) (lines : List Line) (bytes : List ℕ) → ps ≡ [] → HasSizes named rvc ps (Label name) lines → AreEncoded named lines bytes → bytes ≡ []
no_lines named rvc ps name lines bytes none sizes encoded = go lines (subst (λ x. HasSizes named rvc x (Label name) lines) none sizes) encoded
  where
    go : (ls : List Line) → HasSizes named rvc [] (Label name) ls → AreEncoded named ls bytes → bytes ≡ []
    go [] h e = e
    go (l ∷ ls) h e = absurd h

pub step_written : (p : Program) (n line : ℕ) (step : Step) (r : Row) (bytes : List ℕ) → IsWritten p (site n line (kind_of step) r) bytes → Told p (site n line (kind_of step) r)
    → IsSpoken step → IsFullStep step r.bytes → bytes ≡ bytes_at step
step_written p n line (A_code code) r bytes w told spoken full = code_written p (site n line (code_statement code) r) bytes w told refl code spoken refl full
step_written p n line The_entry r bytes w told spoken full =
    let s = site n line (kind_of The_entry) r in
    let no : Some w.ps ≡ Some [] = sym w.are_parts in
    let none : w.ps ≡ [] = cc in
    no_lines (form_at p s) false w.ps (codes "_start") w.lines bytes none w.sizes w.encoded
