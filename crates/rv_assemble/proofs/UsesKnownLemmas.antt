-- The symbols that relocations name are names that a map can show, or have a definition in their file.

use Rattle.std.proofs.Common.{◌≡◌, ℕ, zero, suc, Bool, true, false, ◌&&◌, List, [], ◌∷◌, ◌++◌, refl, sym, ap, ◌∙◌, subst, map, Option, Some, None}
use Rattle.std.proofs.lemmas.List.Concat.{flat_map-append}
use Rattle.std.proofs.lemmas.Bool.{and_parts, and_from}
use Rattle.std.proofs.lemmas.List.Folds.{list_all-append}
use Rattle.std.specs.Prelude.{⊤, if◌then◌else◌, flat_map, is_some, unwrap_or}
use Rattle.std.specs.List.{AllByRecursion, list_all}
use Rattle.rv_list_laws.proofs.TestsLemmas.{all_weaker}
use Rattle.rv_isa.specs.Kinds.{is_low_part}
use Rattle.rv_isa.specs.declared.kind.Kind.{Kind}
use Rattle.rv_expression_laws.specs.Bytes.{digits_value}
use Rattle.rv_expression_laws.specs.Expression.{Primary, Literal, Symbol, Here, Reference, Tree, Leaf, Unary, Paren, Binary}
use Rattle.rv_expression_laws.specs.Values.{Value, Constant, Symbolic, Difference, Faulty}
use Rattle.rv_statement_laws.specs.declared.pseudo.Function.TheVariants.{Hi, Lo, PcrelHi, PcrelLo}
use Rattle.rv_statement_laws.specs.Statement.{StatementKind, Label, Numbered, Instruction, Directs, Statement, Expression, Operand, Register, Value as Of_value, Applied, Target, Accesses, Word, Quoted, Values, Strings, Zeros}
use Rattle.rv_pseudo_laws.specs.Code.{Part as CodePart, Closed, Open as OpenPart, Joined, code}
use Rattle.rv_unit_laws.specs.Contributions.{Contribution, Nothing, Bytes, Alignment, contribution}
use Rattle.rv_unit_laws.specs.Tables.{Tables, SectionOffset, NumericLabel, at_start, after, tables, meaning, numeric_label_after, numeric_label_before, forward_in, backward_in, numeric_definition, opened_of, Definition, definition}
use Rattle.rv_source_laws.specs.Located.{Located, located_from}
use Rattle.rv_source_laws.specs.Program.{place_of, in_operand, in_contribution}
use Rattle.rv_source_laws.specs.Lines.{other_operand, operand_of}
use Rattle.rv_assemble_laws.specs.CodeFields.{symbol_field, low_field, low_field_at, label_field, field_of, relax_fields, part_fields}
use Rattle.rv_assemble_laws.specs.Coded.{constants}
use Rattle.rv_assemble_laws.specs.Templates.{Datum, Open, padding_templates, contribution_templates}
use Rattle.rv_assemble_laws.specs.LaidStatements.{LaidStatement, expression_value, laid_part, parts_of, coded_templates, templates}
use Rattle.rv_assemble_laws.specs.Symbols.{SymbolUse, use_of, references_in, references_of, references}
use Rattle.rv_assemble_laws.specs.ShownNames.{primary_names, tree_names, own_names, said_names, are_shown, HasNames, is_shown_use, AreShown}
use Rattle.rv_symbols.specs.SymbolUse.{is_meant_use, AreMeant}
use Rattle.rv_assemble.proofs.ValueSymbolsLemmas.{Pass, IsPlace, LeavesPass, by_value}

module _ (t : Tables) where
  abbrev is_known : SymbolUse → Bool
  is_known r = is_shown_use r && is_meant_use t r

  abbrev used : ℕ → Primary → SymbolUse
  used ordinal p = record { ordinal = ordinal; symbol = p }

  -- ---- names and places

  forward_known : (ordinal : ℕ) (digits : List ℕ) (found : Option NumericLabel) → IsPlace (forward_in (opened_of t) true found) → is_some (numeric_definition found) ≡ true
  forward_known ordinal digits None h = absurd h
  forward_known ordinal digits (Some l) h = refl

  backward_known : (ordinal : ℕ) (digits : List ℕ) (found : Option NumericLabel) → IsPlace (backward_in (opened_of t) found) → is_some (numeric_definition found) ≡ true
  backward_known ordinal digits None h = absurd h
  backward_known ordinal digits (Some l) h = refl

  leaf_known : (ordinal : ℕ) (place : SectionOffset) (p : Primary) → are_shown (primary_names p) ≡ true → IsPlace (meaning t true ordinal place p) → is_known (used ordinal p) ≡ true
  leaf_known ordinal place (Literal n) shown h = absurd h
  leaf_known ordinal place (Symbol name) shown h = and_from (are_shown (name ∷ [])) true shown refl
  leaf_known ordinal place Here shown h = refl
  leaf_known ordinal place (Reference digits true) shown h = forward_known ordinal digits (numeric_label_after t.numeric_labels ordinal (digits_value 10 digits)) h
  leaf_known ordinal place (Reference digits false) shown h = backward_known ordinal digits (numeric_label_before t.numeric_labels ordinal (digits_value 10 digits)) h

  both_shown : (xs ys : List (List ℕ)) → are_shown (xs ++ ys) ≡ true → (are_shown xs ≡ true) × (are_shown ys ≡ true)
  both_shown xs ys h = and_parts (are_shown xs) (are_shown ys) (sym (list_all-append _ xs ys) ∙ h)

  leaves_known : (ordinal : ℕ) (place : SectionOffset) (e : Tree) → are_shown (tree_names e) ≡ true → LeavesPass (λ q. meaning t true ordinal place q) (λ p. is_known (used ordinal p)) e
  leaves_known ordinal place (Leaf p) shown = leaf_known ordinal place p shown
  leaves_known ordinal place (Unary o x) shown = leaves_known ordinal place x shown
  leaves_known ordinal place (Paren x) shown = leaves_known ordinal place x shown
  leaves_known ordinal place (Binary o x y) shown =
      let both = both_shown (tree_names x) (tree_names y) shown in
      (leaves_known ordinal place x both.0, leaves_known ordinal place y both.1)

  -- ---- parts

  of_value : (ordinal width : ℕ) (v : Value) → Pass (λ p. is_known (used ordinal p)) v → list_all is_known (references_in (laid_part ordinal (Datum width v))) ≡ true
  of_value ordinal width (Constant n) h = refl
  of_value ordinal width (Symbolic p at k) h = and_from (is_known (used ordinal p)) true h refl
  of_value ordinal width (Difference p q k) (h, l) = and_from (is_known (used ordinal p)) (is_known (used ordinal q) && true) h (and_from (is_known (used ordinal q)) true l refl)
  of_value ordinal width (Faulty code) h = refl

  all_append : (xs ys : List SymbolUse) → list_all is_known xs ≡ true → list_all is_known ys ≡ true → list_all is_known (xs ++ ys) ≡ true
  all_append xs ys h k = list_all-append is_known xs ys ∙ and_from (list_all is_known xs) (list_all is_known ys) h k

  of_values : (l : Located) (width : ℕ) (es : List Expression) → are_shown (flat_map tree_names es) ≡ true
      → list_all is_known (flat_map references_in (map (laid_part l.ordinal) (map (λ e. Datum width (expression_value t l e)) es))) ≡ true
  of_values l width [] h = refl
  of_values l width (e ∷ es) h =
      let both = both_shown (tree_names e) (flat_map tree_names es) h in
      all_append (references_in (laid_part l.ordinal (Datum width (expression_value t l e)))) (flat_map references_in (map (laid_part l.ordinal) (map (λ e. Datum width (expression_value t l e)) es)))
      (of_value l.ordinal width (expression_value t l e) (by_value (λ q. meaning t true l.ordinal (place_of l) q) (λ p. is_known (used l.ordinal p)) e (leaves_known l.ordinal (place_of l) e both.0)))
      (of_values l width es both.1)

  of_padding : (executable : Bool) (ordinal bytes : ℕ) → list_all is_known (flat_map references_in (map (laid_part ordinal) (padding_templates executable ordinal bytes))) ≡ true
  of_padding true ordinal zero = refl
  of_padding true ordinal (suc n) = refl
  of_padding false ordinal bytes = refl

  of_contribution : (l : Located) (bytes : ℕ) (c : Contribution) → are_shown (flat_map tree_names (in_contribution c)) ≡ true
      → list_all is_known (flat_map references_in (map (laid_part l.ordinal) (contribution_templates l.home.executable l.ordinal (expression_value t l) c bytes))) ≡ true
  of_contribution l bytes Nothing h = refl
  of_contribution l bytes (Bytes (Values width values)) h = of_values l width values h
  of_contribution l bytes (Bytes (Strings ended strings)) h = refl
  of_contribution l bytes (Bytes (Zeros count)) h = refl
  of_contribution l bytes (Alignment f number) h = of_padding l.home.executable l.ordinal bytes

  -- ---- code

  abbrev Known : ℕ → Value → Type 0
  Known ordinal v = Pass (λ p. is_known (used ordinal p)) v

  -- the value of an operand
  abbrev IsKnown : Located → Option Operand → Type 0
  IsKnown l (Some (Of_value e)) = Known l.ordinal (expression_value t l e)
  IsKnown l (Some (Applied function e)) = Known l.ordinal (expression_value t l e)
  IsKnown l (Some (Target e)) = Known l.ordinal (expression_value t l e)
  IsKnown l _ = ⊤

  of_expression : (l : Located) (e : Expression) → are_shown (tree_names e) ≡ true → Known l.ordinal (expression_value t l e)
  of_expression l e h = by_value (λ q. meaning t true l.ordinal (place_of l) q) (λ p. is_known (used l.ordinal p)) e (leaves_known l.ordinal (place_of l) e h)

  of_operands : (l : Located) (operands : List Operand) → are_shown (flat_map tree_names (flat_map in_operand operands)) ≡ true → IsKnown l (other_operand operands)
  of_operands l [] h = tt
  of_operands l (Register number ∷ os) h = of_operands l os h
  of_operands l (Of_value e ∷ os) h = of_expression l e (both_shown (tree_names e) (flat_map tree_names (flat_map in_operand os)) h).0
  of_operands l (Applied function e ∷ os) h = of_expression l e (both_shown (tree_names e) (flat_map tree_names (flat_map in_operand os)) h).0
  of_operands l (Target e ∷ os) h = of_expression l e (both_shown (tree_names e) (flat_map tree_names (flat_map in_operand os)) h).0
  of_operands l (Accesses set ∷ os) h = tt
  of_operands l (Word name ∷ os) h = tt
  of_operands l (Quoted bytes ∷ os) h = tt

  abbrev uses : List Open → List SymbolUse
  uses fs = flat_map (λ f. use_of f.ordinal f.symbol) fs

  of_symbol : (k : Kind) (ordinal : ℕ) (v : Value) → Known ordinal v → list_all is_known (uses (symbol_field k ordinal v)) ≡ true
  of_symbol k ordinal (Constant n) h = refl
  of_symbol k ordinal (Symbolic p at plus) h = and_from (is_known (used ordinal p)) true h refl
  of_symbol k ordinal (Difference p q plus) h = refl
  of_symbol k ordinal (Faulty code) h = refl

  of_label : (k : Kind) (ordinal : ℕ) (v : Value) → list_all is_known (uses (label_field t k ordinal v)) ≡ true
  of_label k ordinal (Constant n) = refl
  of_label k ordinal (Symbolic p at plus) = go (definition t ordinal p)
    where
      go : (found : Option Definition) → list_all is_known (uses (low_field_at k found plus)) ≡ true
      go None = refl
      go (Some d) = refl
  of_label k ordinal (Difference p q plus) = refl
  of_label k ordinal (Faulty code) = refl

  of_target : (k : Kind) (ordinal : ℕ) (v : Value) (low : Bool) → Known ordinal v → list_all is_known (uses (if low then low_field k ordinal 0 else symbol_field k ordinal v)) ≡ true
  of_target k ordinal v true h = refl
  of_target k ordinal v false h = of_symbol k ordinal v h

  of_operand : (l : Located) (o : Option Operand) (k : Kind) → IsKnown l o → list_all is_known (uses (field_of t (expression_value t l) l.ordinal o k)) ≡ true
  of_operand l None k h = refl
  of_operand l (Some (Register number)) k h = refl
  of_operand l (Some (Of_value e)) k h = of_symbol k l.ordinal (expression_value t l e) h
  of_operand l (Some (Applied Hi e)) k h = of_symbol k l.ordinal (expression_value t l e) h
  of_operand l (Some (Applied Lo e)) k h = of_symbol k l.ordinal (expression_value t l e) h
  of_operand l (Some (Applied PcrelHi e)) k h = of_symbol k l.ordinal (expression_value t l e) h
  of_operand l (Some (Applied PcrelLo e)) k h = of_label k l.ordinal (expression_value t l e)
  of_operand l (Some (Target e)) k h = of_target k l.ordinal (expression_value t l e) (is_low_part k) h
  of_operand l (Some (Accesses set)) k h = refl
  of_operand l (Some (Word name)) k h = refl
  of_operand l (Some (Quoted bytes)) k h = refl

  of_relax : (relax : Bool) (ordinal : ℕ) → list_all is_known (uses (relax_fields relax ordinal)) ≡ true
  of_relax true ordinal = refl
  of_relax false ordinal = refl

  of_part : (l : Located) (p : CodePart) → IsKnown l (operand_of l.kind) → list_all is_known (uses (part_fields t (expression_value t l) l p)) ≡ true
  of_part l (Closed i) h = refl
  of_part l (OpenPart k i) h = of_operand l (operand_of l.kind) k h
  of_part l (Joined k i j) h =
      ap (list_all is_known) (flat_map-append (λ (f : Open). use_of f.ordinal f.symbol) (field_of t (expression_value t l) l.ordinal (operand_of l.kind) k) (relax_fields l.options.relax l.ordinal))
      ∙ all_append (uses (field_of t (expression_value t l) l.ordinal (operand_of l.kind) k)) (uses (relax_fields l.options.relax l.ordinal)) (of_operand l (operand_of l.kind) k h) (of_relax l.options.relax l.ordinal)

  of_code : (l : Located) (ordinal : ℕ) (ps : List CodePart) (coded : List (List ℕ)) → IsKnown l (operand_of l.kind)
      → list_all is_known (flat_map references_in (map (laid_part ordinal) (coded_templates (part_fields t (expression_value t l) l) ps coded))) ≡ true
  of_code l ordinal [] coded h = refl
  of_code l ordinal (p ∷ ps) [] h = refl
  of_code l ordinal (p ∷ ps) (bytes ∷ coded) h =
      all_append (uses (part_fields t (expression_value t l) l p)) (flat_map references_in (map (laid_part ordinal) (coded_templates (part_fields t (expression_value t l) l) ps coded)))
      (of_part l p h) (of_code l ordinal ps coded h)

  of_statement : (s : LaidStatement) (kind : StatementKind) → kind ≡ s.located.kind → are_shown (said_names kind) ≡ true
      → list_all is_known (flat_map references_in (map (laid_part s.located.ordinal) (templates t s kind))) ≡ true
  of_statement s (Label name) e h = refl
  of_statement s (Numbered number) e h = refl
  of_statement s (Instruction mnemonic operands) e h =
      of_code s.located s.located.ordinal (unwrap_or (code (constants (expression_value t s.located)) s.located.options.rvc s.bytes mnemonic operands) []) s.coded
      (subst (λ k. IsKnown s.located (operand_of k)) e (of_operands s.located operands h))
  of_statement s (Directs d) e h = of_contribution s.located s.bytes (contribution d) (both_shown (own_names (Directs d)) (flat_map tree_names (in_contribution (contribution d))) h).1

  of_laid_statement : (s : LaidStatement) → are_shown (said_names s.located.kind) ≡ true → list_all is_known (references_of t s) ≡ true
  of_laid_statement s h = go s.located.home.loaded
    where
      go : (b : Bool) → list_all is_known (if b then flat_map references_in (parts_of t s) else []) ≡ true
      go true = of_statement s s.located.kind refl h
      go false = refl

  of_laid : (laid : List LaidStatement) → AllByRecursion (λ s. are_shown (said_names s.located.kind) ≡ true) laid → list_all is_known (references t laid) ≡ true
  of_laid [] h = refl
  of_laid (s ∷ ss) (h, hs) = all_append (references_of t s) (references t ss) (of_laid_statement s h) (of_laid ss hs)

-- ---- all of them

names_from : (k : ℕ) (t : Tables) (ss : List Statement) → HasNames ss → AllByRecursion (λ (l : Located). are_shown (said_names l.kind) ≡ true) (located_from 1 k t ss)
names_from k t [] h = tt
names_from k t (s ∷ ss) h =
    let both = and_parts (are_shown (said_names s.kind)) (list_all (λ (s : Statement). are_shown (said_names s.kind)) ss) h in
    (both.0, names_from (suc k) (after t k s.kind) ss both.1)

of_located : (laid : List LaidStatement) → AllByRecursion (λ (l : Located). are_shown (said_names l.kind) ≡ true) (map (λ s. s.located) laid) → AllByRecursion (λ s. are_shown (said_names s.located.kind) ≡ true) laid
of_located [] h = tt
of_located (s ∷ ss) (h, hs) = (h, of_located ss hs)

module _ (ss : List Statement) (laid : List LaidStatement) (names : HasNames ss) (is : map (λ s. s.located) laid ≡ located_from 1 1 (at_start ss) ss) where
  known : list_all (λ r. is_shown_use r && is_meant_use (tables ss) r) (references (tables ss) laid) ≡ true
  known =
      of_laid (tables ss) laid
      (of_located laid (subst (λ l. AllByRecursion (λ (l : Located). are_shown (said_names l.kind) ≡ true) l) (sym is) (names_from 1 (at_start ss) ss names)))

  pub are_shown_uses : AreShown (references (tables ss) laid)
  are_shown_uses = all_weaker (λ r. is_shown_use r && is_meant_use (tables ss) r) is_shown_use (references (tables ss) laid) (λ r h. (and_parts (is_shown_use r) (is_meant_use (tables ss) r) h).0) known

  pub are_meant_uses : AreMeant (tables ss) (references (tables ss) laid)
  are_meant_uses = all_weaker (λ r. is_shown_use r && is_meant_use (tables ss) r) (is_meant_use (tables ss)) (references (tables ss) laid) (λ r h. (and_parts (is_shown_use r) (is_meant_use (tables ss) r) h).1) known
