-- The relocations of a statement name what the statement refers to.

use Rattle.std.proofs.Common.{◌≡◌, ℕ, zero, suc, Bool, true, false, refl, ap, sym, subst, ◌∙◌, List, [], ◌∷◌, ◌++◌, map, Option, Some}
use Rattle.std.proofs.Math.Bool.{or-false}
use Rattle.std.specs.Prelude.{◌||◌, flat_map, unwrap_or}
use Rattle.std.specs.List.{list_any}
use Rattle.std.proofs.lemmas.List.Folds.{list_any-append}
use Rattle.rv_map_laws.specs.declared.map.SectionId.{SectionId}
use Rattle.rv_expression_laws.specs.Expression.{Here}
use Rattle.rv_expression_laws.specs.Values.{Value, Constant, Symbolic, Difference, Faulty}
use Rattle.rv_statement_laws.specs.declared.mnemonic.Mnemonic.{Mnemonic}
use Rattle.rv_statement_laws.specs.Statement.{StatementKind, Label, Numbered, Instruction, Directs, Expression, Operand, Values, Strings, Zeros}
use Rattle.rv_parcel.specs.declared.form.Compressed.{Compressed}
use Rattle.rv_pseudo_laws.specs.Code.{Part as CodePart, Closed, Open as OpenPart, Joined, named_form}
use Rattle.rv_unit_laws.specs.Contributions.{Contribution, Nothing, Bytes, Alignment, contribution}
use Rattle.rv_unit_laws.specs.Tables.{Tables}
use Rattle.rv_source_laws.specs.Lines.{operand_of, other_operand}
use Rattle.rv_source_laws.specs.Located.{Located}
use Rattle.rv_source_laws.specs.Program.{Program, tables_in}
use Rattle.rv_source_laws.specs.Collected.{means, value_refers, operand_refers, contribution_refers, statement_refers}
use Rattle.rv_assemble_laws.specs.Coded.{constants, AreCodedParts}
use Rattle.rv_assemble_laws.specs.CodeFields.{part_fields}
use Rattle.rv_assemble_laws.specs.Templates.{Open as Field, Template, Datum, template_fields, value_fields, padding_templates, contribution_templates}
use Rattle.rv_assemble_laws.specs.LaidStatements.{LaidStatement, LaidPart, expression_value, laid_part, coded_templates, templates, HasSize}
use Rattle.rv_sources_link_theorems.proofs.collected.NamedLemmas.{names, fields, Row, rows_same}
use Rattle.rv_sources_link_theorems.proofs.statements.StatementsLemmas.{renumbered}

module _ (p : Program) (T : SectionId) (f : ℕ) where
  -- a field names what stands in the section
  abbrev pub test : Field → Bool
  test x = names p T f x.ordinal x.symbol

  abbrev pub in_part : LaidPart → Bool
  in_part q = list_any test (template_fields q.ordinal q.template)

  abbrev pub in_templates : ℕ → List Template → Bool
  in_templates n ts = list_any (λ x. list_any test (template_fields n x)) ts

  pub parts_are : (n : ℕ) (ts : List Template) → list_any in_part (map (laid_part n) ts) ≡ in_templates n ts
  parts_are n [] = refl
  parts_are n (x ∷ xs) = ap (λ b. list_any test (template_fields n x) || b) (parts_are n xs)

  -- code
  coded_are : (n : ℕ) (named : Option Compressed) (c : Bool) (own : CodePart → List Field) (ps : List CodePart) (coded : List (List ℕ)) → AreCodedParts named c ps coded
      → in_templates n (coded_templates own ps coded) ≡ list_any test (flat_map own ps)
  coded_are n named c own [] [] h = refl
  coded_are n named c own [] (x ∷ xs) h = refl
  coded_are n named c own (q ∷ ps) [] h = absurd h
  coded_are n named c own (q ∷ ps) (x ∷ xs) (h, hs) = ap (λ b. list_any test (own q) || b) (coded_are n named c own ps xs hs) ∙ sym (list_any-append test (own q) (flat_map own ps))

  module _ (l : Located) where
    abbrev s : Located
    s = renumbered f l

    abbrev n : ℕ
    n = l.ordinal

    -- data
    datum_is : (width : ℕ) (w : Value) → list_any test (value_fields n width w) ≡ value_refers (means p T s) w
    datum_is width (Constant m) = refl
    datum_is width (Symbolic q at plus) = or-false (names p T f n (Some q))
    datum_is width (Difference q r plus) = ap (λ b. names p T f n (Some q) || b) (or-false (names p T f n (Some r)))
    datum_is width (Faulty c) = refl

    data_are : (width : ℕ) (v : Expression → Value) (es : List Expression) → in_templates n (map (λ e. Datum width (v e)) es) ≡ list_any (λ e. value_refers (means p T s) (v e)) es
    data_are width v [] = refl
    data_are width v (e ∷ es) =
        ap (λ b. b || in_templates n (map (λ e. Datum width (v e)) es)) (datum_is width (v e)) ∙ ap (λ b. value_refers (means p T s) (v e) || b) (data_are width v es)

    padding_none : (x : Bool) (bytes : ℕ) → in_templates n (padding_templates x n bytes) ≡ false
    padding_none true zero = refl
    padding_none true (suc m) = refl
    padding_none false bytes = refl

    contribution_is : (x : Bool) (c : Contribution) (bytes : ℕ) → in_templates n (contribution_templates x n (expression_value (tables_in p f) l) c bytes) ≡ contribution_refers p T s c
    contribution_is x Nothing bytes = refl
    contribution_is x (Bytes (Values width values)) bytes = data_are width (expression_value (tables_in p f) l) values
    contribution_is x (Bytes (Strings ended strings)) bytes = refl
    contribution_is x (Bytes (Zeros count)) bytes = refl
    contribution_is x (Alignment form number) bytes = padding_none x bytes

  module _ (z : LaidStatement) (multiple : ℕ) (no_self : names p T f z.located.ordinal (Some Here) ≡ false) where
    abbrev it : Located
    it = renumbered f z.located

    abbrev own : Option Operand → CodePart → List Field
    own o q = fields p T it z.located.options.relax no_self o q

    abbrev v : Expression → Value
    v e = expression_value (tables_in p f) z.located e

    own_same : (o : Option Operand) → operand_of z.located.kind ≡ o → (ps : List CodePart) → flat_map (part_fields (tables_in p f) v z.located) ps ≡ flat_map (own o) ps
    own_same o e [] = refl
    own_same o e (Closed i ∷ ps) = own_same o e ps
    own_same o e (OpenPart k i ∷ ps) =
        ap (λ x. own x (OpenPart k i) ++ flat_map (part_fields (tables_in p f) v z.located) ps) e ∙ ap (λ l. own o (OpenPart k i) ++ l) (own_same o e ps)
    own_same o e (Joined k i j ∷ ps) =
        ap (λ x. own x (Joined k i j) ++ flat_map (part_fields (tables_in p f) v z.located) ps) e ∙ ap (λ l. own o (Joined k i j) ++ l) (own_same o e ps)

    code_is : (m : Mnemonic) (ops : List Operand) → z.located.kind ≡ Instruction m ops → HasSize v z multiple (Instruction m ops)
        → in_templates z.located.ordinal (templates (tables_in p f) z (Instruction m ops)) ≡ list_any (operand_refers p T it) ops
    code_is m ops e h =
        ap (λ o. in_templates z.located.ordinal (coded_templates (part_fields (tables_in p f) v z.located) (unwrap_or o []) z.coded)) h.parts
        ∙ coded_are z.located.ordinal (named_form (constants v) m ops) _ (part_fields (tables_in p f) v z.located) h.ps z.coded h.coded_as
        ∙ ap (list_any test) (own_same (other_operand ops) (ap operand_of e) h.ps)
        ∙ subst (Row p T it z.located.options.relax no_self ops) h.parts (rows_same p T it z.located.options.relax no_self z.located.options.rvc z.bytes m ops)

    by_kind : (kind : StatementKind) → z.located.kind ≡ kind → ((m : Mnemonic) (ops : List Operand) → kind ≡ Instruction m ops → HasSize v z multiple kind)
        → in_templates z.located.ordinal (templates (tables_in p f) z kind) ≡ statement_refers p T it kind
    by_kind (Label name) e h = refl
    by_kind (Numbered number) e h = refl
    by_kind (Directs d) e h = contribution_is z.located z.located.home.executable (contribution d) z.bytes
    by_kind (Instruction m ops) e given = code_is m ops e (given m ops refl)

    -- by the tables of its file
    pub statement_is : (t : Tables) → tables_in p f ≡ t → ((m : Mnemonic) (ops : List Operand) → z.located.kind ≡ Instruction m ops → HasSize (expression_value t z.located) z multiple z.located.kind)
        → in_templates z.located.ordinal (templates t z z.located.kind) ≡ statement_refers p T it z.located.kind
    statement_is t same =
        subst
        (λ t. ((m : Mnemonic) (ops : List Operand) → z.located.kind ≡ Instruction m ops → HasSize (expression_value t z.located) z multiple z.located.kind)
        → in_templates z.located.ordinal (templates t z z.located.kind) ≡ statement_refers p T it z.located.kind)
        same (by_kind z.located.kind refl)
