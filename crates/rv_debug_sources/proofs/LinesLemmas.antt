-- Rows, directories and files, one after another.

use Rattle.std.proofs.Common.{◌≡◌, ℕ, ◌+◌, Bool, List, [], ◌∷◌, ◌++◌, drop, ap, ◌∙◌, sym}
use Rattle.std.specs.Prelude.{codes, map, Option, option_and_then}
use Rattle.rv_lexer.specs.Token.{kind_of, token_of}
use Rattle.rv_lexer.specs.declared.token.Token.{Token}
use Rattle.rv_debug_sources.specs.declared.line.SourcePart.{SourcePart}
use Rattle.rv_debug_sources.specs.declared.line.FileName.{FileName}
use Rattle.rv_debug_sources.specs.declared.line.LineRow.{LineRow}
use Rattle.rv_debug_sources.specs.declared.line.LineStep.{LineStep}
use Rattle.rv_debug_sources.specs.declared.loc.LocReading.{LocReading}
use Rattle.rv_debug_sources.specs.LineText.{with_step, registers_behind, with_steps, with_string, with_directories, with_name, with_names}
use Rattle.rv_debug_sources.specs.Lines.{read_more, row_from}

-- one more step
pub step_next : (steps : List LineStep) (i : ℕ) (s : LineStep) (text new whole : List ℕ) (old next : LineRow) → drop i steps ≡ s ∷ drop (i + 1) steps →
    new ≡ with_step text old s → next ≡ registers_behind s → with_steps text old (drop i steps) ≡ whole → with_steps new next (drop (i + 1) steps) ≡ whole
step_next steps i s text new whole old next here put moved so_far =
    (λ j. with_steps (put j) (moved j) (drop (i + 1) steps)) ∙ ap (λ (l : List LineStep). with_steps text old l) (sym here) ∙ so_far

-- one more directory
pub directory_next : (source : List ℕ) (ds : List SourcePart) (i : ℕ) (d : SourcePart) (text one new whole : List ℕ) → drop i ds ≡ d ∷ drop (i + 1) ds →
    one ≡ with_string source text d → new ≡ one ++ codes "\n" → with_directories source text (drop i ds) ≡ whole → with_directories source new (drop (i + 1) ds) ≡ whole
directory_next source ds i d text one new whole here first second so_far =
    ap (λ t. with_directories source t (drop (i + 1) ds)) (second ∙ ap (λ t. t ++ codes "\n") first)
    ∙ ap (λ (l : List SourcePart). with_directories source text l) (sym here) ∙ so_far

-- one more file
pub name_next : (source behind : List ℕ) (fs : List FileName) (i : ℕ) (f : FileName) (text new whole : List ℕ) → drop i fs ≡ f ∷ drop (i + 1) fs →
    new ≡ with_name source behind text f → with_names source behind text (drop i fs) ≡ whole → with_names source behind new (drop (i + 1) fs) ≡ whole
name_next source behind fs i f text new whole here put so_far =
    ap (λ t. with_names source behind t (drop (i + 1) fs)) put ∙ ap (λ (l : List FileName). with_names source behind text l) (sym here) ∙ so_far

-- one more token
pub token_next : (ts : List Token) (i : ℕ) (t : Token) (r n : Option LocReading) (whole : Option LineRow) → drop i ts ≡ t ∷ drop (i + 1) ts →
    n ≡ option_and_then (λ r. read_more r (kind_of t.kind)) r → row_from r (map token_of (drop i ts)) ≡ whole → row_from n (map token_of (drop (i + 1) ts)) ≡ whole
token_next ts i t r n whole here more so_far =
    ap (λ (o : Option LocReading). row_from o (map token_of (drop (i + 1) ts))) more ∙ ap (λ (l : List Token). row_from r (map token_of l)) (sym here) ∙ so_far
