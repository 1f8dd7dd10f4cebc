-- A raw listing has no fault.

use Rattle.std.proofs.Common.{◌≡◌, ℕ, suc, ◌+◌, ◌≤◌, ◌⊎◌, true, List, [], ◌∷◌, ◌++◌, length, map, append-nil, Option, None, refl, sym, ◌∙◌, ap, inl, inr}
use Rattle.std.proofs.lemmas.List.{drop_all}
use Rattle.rv_expression_laws.specs.Expression.{Primary, Here}
use Rattle.rv_expression_laws.specs.Codes.{lowest}
use Rattle.rv_expression_laws.specs.Values.{Meaning, Open, value_of}
use Rattle.rv_statement_laws.specs.Statement.{StatementKind, Label, Expression}
use Rattle.rv_statement_laws.specs.Limits.{most_statements}
use Rattle.rv_parse_laws.specs.Reading.{Reads}
use Rattle.rv_pseudo_laws.specs.Code.{Constants}
use Rattle.rv_pseudo_laws.specs.InstructionFaults.{Worth, faults as faults_of}
use Rattle.rv_unit_laws.specs.Bindings.{Bindings, bindings_of}
use Rattle.rv_unit_laws.specs.Tables.{Tables, Labelled, at_start, after, tables, meaning}
use Rattle.rv_unit_laws.specs.Faults.{StatementFault, at_line, faults, first_fault_from, first_unit_fault, past_most}
use Rattle.rv_source_laws.specs.Located.{Located, located_from, located}
use Rattle.rv_source_laws.specs.Program.{place_of}
use Rattle.rv_listing_laws.specs.declared.code.Code.{Code}
use Rattle.rv_listing_laws.specs.Raw.{lines_text, raw_lines}
use Rattle.rv_raw_theorems.specs.Statements.{code_statement, raw_statements, on_lines}
use Rattle.rv_raw_theorems.proofs.LinesLemmas.{lines_read}
use Rattle.rv_raw_theorems.proofs.ListingLemmas.{listing_is}
use Rattle.rv_assemble_laws.specs.Coded.{constants}
use Rattle.rv_assemble_laws.specs.InstructionFaults.{is_label, worths, instruction_faults}
use Rattle.rv_assemble_laws.specs.Refusals.{code_faults_at, code_fault_from, code_fault, else_fault, statements_fault}
use Rattle.rv_raw_theorems.specs.Listed.{listed, IsShortListing}
use Rattle.rv_raw_theorems.proofs.ExpressionValuesLemmas.{known, told, led}
use Rattle.rv_raw_theorems.proofs.OperandRangesLemmas.{code_faults}
use Rattle.rv_raw_theorems.proofs.StatementsLemmas.{code_instruction, start_name, raw_options, table, entry_label, after_code, table_is, IsHead, IsOfCode, IsPlain, ArePlain, all_plain, here_is}

-- ---- the statements are few

pub reads : (before after : List Code) → IsShortListing before after → Reads (lines_text (raw_lines before after)) (listed before after)
reads before after h = lines_read (raw_lines before after) (raw_statements before after) (listing_is before after h.sourced) h.short

pub few : (before after : List Code) → IsShortListing before after → length (listed before after) ≤ most_statements
few before after h = (reads before after h).2

-- ---- labels and directives

faultless : (line : ℕ) (cs : List ℕ) (rest : Option StatementFault) → cs ≡ [] → at_line line (lowest cs) rest ≡ rest
faultless line cs rest e = ap (λ l. at_line line (lowest l) rest) e

codes_faultless : (all : Tables) (labels : List Labelled) (b : Bindings) (n line : ℕ) (cs : List Code) (rest : List StatementKind)
    → ((m at : ℕ) → first_fault_from all (table labels raw_options b) m (on_lines at rest) ≡ None) → first_fault_from all (table labels raw_options b) n (on_lines line (map code_statement cs ++ rest)) ≡ None
codes_faultless all labels b n line [] rest more = more n line
codes_faultless all labels b n line (c ∷ cs) rest more =
    faultless line (faults all (table labels raw_options b) n (code_statement c)) _ (ap (faults all (table labels raw_options b) n) (code_instruction c).is)
    ∙ ap (λ u. first_fault_from all u (suc n) (on_lines (line + 1) (map code_statement cs ++ rest))) (after_code (table labels raw_options b) n c)
    ∙ codes_faultless all labels b (suc n) (line + 1) cs rest more

no_first : (all : Tables) (before after : List Code) → first_fault_from all (at_start (listed before after)) 1 (listed before after) ≡ None
no_first all before after = codes_faultless all [] b 4 4 before (Label start_name ∷ map code_statement after) behind
  where
    b : Bindings
    b = bindings_of (listed before after)

    behind : (m at : ℕ) → first_fault_from all (table [] raw_options b) m (on_lines at (Label start_name ∷ map code_statement after)) ≡ None
    behind m at =
        ap (λ ks. first_fault_from all (table (entry_label m ∷ []) raw_options b) (suc m) (on_lines (at + 1) ks)) (sym (append-nil (map code_statement after)))
        ∙ codes_faultless all (entry_label m ∷ []) b (suc m) (at + 1) after [] (λ q line. refl)

no_first_fault : (before after : List Code) → IsShortListing before after → first_unit_fault (listed before after) ≡ None
no_first_fault before after h =
    ap (λ l. past_most l (first_fault_from (tables (listed before after)) (at_start (listed before after)) 1 (listed before after)))
    (drop_all most_statements (listed before after) (few before after h))
    ∙ no_first (tables (listed before after)) before after

-- ---- code

module _ (labels : List Labelled) (b : Bindings) where
  abbrev t : Tables
  t = table labels raw_options b

  head_faults : (c : Constants) (w : Expression → Worth) (kind : StatementKind) → IsHead kind → faults_of c w kind ≡ []
  head_faults c w kind (inl e) = ap (faults_of c w) e
  head_faults c w kind (inr (inl (choice, e))) = ap (faults_of c w) e
  head_faults c w kind (inr (inr (binding, (names, e)))) = ap (faults_of c w) e

  none_at : (s : Located) → IsPlain s → code_faults_at t s ≡ []
  none_at s h = by h.says
    where
      m : Primary → Meaning
      m q = meaning t true s.ordinal (place_of s) q

      here : m Here ≡ Open
      here = here_is labels b s h.section

      by : IsOfCode s ⊎ IsHead s.kind → instruction_faults (value_of m) (is_label t s.ordinal) s.kind ≡ []
      by (inl c) =
          ap (instruction_faults (value_of m) (is_label t s.ordinal)) c.kind
          ∙ code_faults (constants (value_of m)) (worths (value_of m) (is_label t s.ordinal)) (known m) (told m (is_label t s.ordinal)) (led m here (is_label t s.ordinal)) c.code c.sourced
      by (inr head) = head_faults (constants (value_of m)) (worths (value_of m) (is_label t s.ordinal)) s.kind head

  pub none_from : (ls : List Located) → ArePlain ls → code_fault_from t ls ≡ None
  none_from [] h = refl
  none_from (s ∷ ls) (one, h) = faultless s.line (code_faults_at t s) (code_fault_from t ls) (none_at s one) ∙ none_from ls h

no_code_fault : (before after : List Code) → IsShortListing before after → code_fault (listed before after) ≡ None
no_code_fault before after h =
    let (n, is) = table_is before after in
    let ss = listed before after in
    ap (λ t. code_fault_from t (located (ss ∷ []))) is
    ∙ ap (code_fault_from (table (entry_label n ∷ []) raw_options (bindings_of ss))) (append-nil (located_from 1 1 (at_start ss) ss))
    ∙ none_from (entry_label n ∷ []) (bindings_of ss) (located_from 1 1 (at_start ss) ss) (all_plain before after h.sourced)

pub no_fault : (before after : List Code) → IsShortListing before after → statements_fault (listed before after) ≡ None
no_fault before after h =
    ap (λ f. else_fault f (code_fault (listed before after))) (no_first_fault before after h) ∙ no_code_fault before after h
