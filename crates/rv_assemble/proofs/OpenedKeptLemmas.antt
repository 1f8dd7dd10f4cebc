-- No source that reads well opens the section of the rows.

use Rattle.std.proofs.Common.{◌≡◌, ℕ, true, ◌&&◌, List, [], ◌∷◌, ◌++◌, Option, Some, None, refl, sym, ap, ◌∙◌, subst}
use Rattle.std.specs.Prelude.{not, nat_le, length, codes, bytes_eq}
use Rattle.std.specs.List.{list_all}
use Rattle.std.proofs.lemmas.Bool.{and_parts}
use Rattle.std.proofs.lemmas.List.Folds.{list_all-append}
use Rattle.rv_expression_laws.specs.Cut.{Piece, Each}
use Rattle.rv_expression_laws.specs.Lexing.{Token}
use Rattle.rv_expression_laws.specs.SyntaxError.{longest_name}
use Rattle.rv_statement_laws.specs.declared.directive.DirectiveWord.{DirectiveWord}
use Rattle.rv_statement_laws.specs.declared.directive.DirectiveWord.TheVariants as words
use Rattle.rv_statement_laws.specs.declared.directive.Choice.{Choice}
use Rattle.rv_statement_laws.specs.Statement.{Operand, Value, Word, Quoted, Directive, StatementKind, Label, Numbered, Instruction, Directs, Statement}
use Rattle.rv_parse_laws.specs.Words.{named_in, choices}
use Rattle.rv_parse_laws.specs.Syntax.{is_section_name, operand_slots, option_directive, directed, AreOperands, SourcePart, Ends, Says, IsPart, StopsPart, IsStatement}
use Rattle.rv_parse_laws.specs.Reading.{told, statements_of_parts, Reads}
use Rattle.rv_object_laws.specs.Valid.{is_kept_name}
use Rattle.rv_assemble.specs.KeptNames.{opens_kept, OpenOthers}

kept_name : (name : List ℕ) → is_section_name name ≡ true → is_kept_name name ≡ true
unfolding is_section_name
kept_name name h = (and_parts (nat_le (length name) longest_name) (not (bytes_eq name (codes ".rv.rows"))) h).1

section_kept : (name : List ℕ) (later : List Operand) → is_kept_name name ≡ true → opens_kept (Directs (directed words.Section (Word name ∷ later))) ≡ true
section_kept name [] h = h
section_kept name (Quoted flags ∷ []) h = h
section_kept name (Quoted flags ∷ Word kind ∷ size) h = h
section_kept name _ h = refl

choice_kept : (found : Option Choice) → opens_kept (Directs (option_directive found)) ≡ true
choice_kept (Some choice) = refl
choice_kept None = refl

directed_kept : (word : DirectiveWord) (ts : List Token) (os : List Operand) → AreOperands (operand_slots word) ts os → opens_kept (Directs (directed word os)) ≡ true
directed_kept words.Section ts os (one, rest, now, later, is, (name, joined, good, names), others, says) =
    subst (λ (l : List Operand). opens_kept (Directs (directed words.Section l)) ≡ true) (sym (says ∙ ap (λ l. l ++ later) names)) (section_kept name later (kept_name name good))
directed_kept (words.Enters section) ts os h = refl
directed_kept (words.Binds binding) ts os h = refl
directed_kept words.Set ts os h = set_kept os
  where
    set_kept : (os : List Operand) → opens_kept (Directs (directed words.Set os)) ≡ true
    set_kept (Word name ∷ Value e ∷ []) = refl
    set_kept _ = refl
directed_kept words.AlignToPower ts os h = power_kept os
  where
    power_kept : (os : List Operand) → opens_kept (Directs (directed words.AlignToPower os)) ≡ true
    power_kept (Value e ∷ []) = refl
    power_kept _ = refl
directed_kept words.AlignToBytes ts os h = bytes_kept os
  where
    bytes_kept : (os : List Operand) → opens_kept (Directs (directed words.AlignToBytes os)) ≡ true
    bytes_kept (Value e ∷ []) = refl
    bytes_kept _ = refl
directed_kept (words.Value width) ts os h = refl
directed_kept words.Ascii ts os h = refl
directed_kept words.Asciz ts os h = refl
directed_kept words.Zero ts os h = zero_kept os
  where
    zero_kept : (os : List Operand) → opens_kept (Directs (directed words.Zero os)) ≡ true
    zero_kept (Value e ∷ []) = refl
    zero_kept _ = refl
directed_kept words.Option ts os h = option_kept os
  where
    option_kept : (os : List Operand) → opens_kept (Directs (directed words.Option os)) ≡ true
    option_kept (Word name ∷ []) = choice_kept (named_in choices name)
    option_kept _ = refl
directed_kept words.Ignored ts os h = refl

statement_kept : (ts : List Token) (kind : StatementKind) → IsStatement ts kind → opens_kept kind ≡ true
statement_kept ts (Label name) h = refl
statement_kept ts (Numbered number) h = refl
statement_kept ts (Instruction mnemonic operands) h = refl
statement_kept ts (Directs directive) (t, rest, word, operands, is, colon, begun, h, says) =
    subst (λ (d : Directive). opens_kept (Directs d) ≡ true) (sym says) (directed_kept word rest operands h)

told_kept : (p : SourcePart) (ts : List Token) → IsPart p ts → OpenOthers (told p ts)
told_kept Ends ts h = refl
told_kept (Says statement) [] h = refl
told_kept (Says statement) (t ∷ ts) h = ap (λ b. b && true) (statement_kept (t ∷ ts) statement h)

parts_kept : (ps : List (Piece SourcePart Token)) → Each IsPart StopsPart ps [] → OpenOthers (statements_of_parts ps)
parts_kept [] h = refl
parts_kept (p ∷ ps) (is, stops, each) =
    list_all-append (λ (s : Statement). opens_kept s.kind) (told p.kind p.text) (statements_of_parts ps)
    ∙ ap (λ b. b && list_all (λ (s : Statement). opens_kept s.kind) (statements_of_parts ps)) (told_kept p.kind p.text is) ∙ parts_kept ps each

pub sections_kept : (bytes : List ℕ) (ss : List Statement) → Reads bytes ss → OpenOthers ss
sections_kept bytes ss (short, lines, few, ts, ps, lexes, cuts, says, opens) = subst OpenOthers (sym says) (parts_kept ps cuts.each)
