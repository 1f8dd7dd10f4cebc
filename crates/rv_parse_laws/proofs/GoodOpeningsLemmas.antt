-- A section is opened well by a statement exactly where no token of it is wrong as an opening.

use Rattle.std.proofs.Common.{◌≡◌, ℕ, Bool, true, false, cond, ◌||◌, not, List, [], ◌∷◌, Option, Some, None, refl, ◌∙◌, ap, subst, codes}
use Rattle.std.specs.List.{list_all}
use Rattle.std.specs.Str.{bytes_eq}
use Rattle.std.proofs.lemmas.Slice.Eq.{bytes_eq-Decides}
use Rattle.std.proofs.lemmas.Bool.{and_parts}
use Rattle.std.specs.Option.{option_or}
use Rattle.rv_expression_laws.specs.Grammar.{Kind, Name as NameToken}
use Rattle.rv_statement_laws.specs.declared.directive.DirectiveWord.{DirectiveWord}
use Rattle.rv_statement_laws.specs.declared.directive.DirectiveWord.TheVariants as words
use Rattle.rv_statement_laws.specs.declared.directive.Choice.{Choice}
use Rattle.rv_statement_laws.specs.declared.mnemonic.Mnemonic.{Mnemonic}
use Rattle.rv_statement_laws.specs.Statement.{Operand, Word, Value, Directs}
use Rattle.rv_parse_laws.specs.Words.{named_in, choices, frame_directive, directive_words, directive_named, mnemonic_named, begun_by, beginning}
use Rattle.rv_parse_laws.specs.declared.beginning.Beginning.TheVariants as beginnings
use Rattle.rv_parse_laws.specs.Syntax.{begins, option_directive, directed}
use Rattle.rv_parse_laws.specs.Opening.{opens_well}
use Rattle.rv_parse_laws.specs.WrongOpening.{is_section}

-- the word `.section` alone stands for its directive
unfoldable pub is_section_word : DirectiveWord → Bool
is_section_word words.Section = true
is_section_word _ = false

row_good : (List ℕ × DirectiveWord) → Bool
row_good row = bytes_eq row.0 (codes ".section") || not (is_section_word row.1)

rows_good : list_all row_good directive_words ≡ true
unfolding directive_words row_good is_section_word
rows_good = refl

same_row : (name : List ℕ) (value : DirectiveWord) → value ≡ words.Section → (bytes_eq name (codes ".section") || not (is_section_word value)) ≡ true → bytes_eq name (codes ".section") ≡ true
unfolding is_section_word
same_row name value is h = last (bytes_eq name (codes ".section")) (subst (λ (v : DirectiveWord). (bytes_eq name (codes ".section") || not (is_section_word v)) ≡ true) is h)
  where
    last : (b : Bool) → (b || false) ≡ true → b ≡ true
    last true h = refl
    last false h = absurd (cc)

in_table : (table : List (List ℕ × DirectiveWord)) (word : List ℕ) → list_all row_good table ≡ true → named_in table word ≡ Some words.Section → bytes_eq word (codes ".section") ≡ true
unfolding row_good
in_table [] word good e = absurd (cc)
in_table (row ∷ table) word good e =
    let p = and_parts (row_good row) (list_all row_good table) good in
    go (bytes_eq row.0 word) refl e p.0 (in_table table word p.1)
  where
    go : (b : Bool) → bytes_eq row.0 word ≡ b → cond b (Some row.1) (named_in table word) ≡ Some words.Section → row_good row ≡ true
        → (named_in table word ≡ Some words.Section → bytes_eq word (codes ".section") ≡ true) → bytes_eq word (codes ".section") ≡ true
    go true same e h ih =
        let names : row.0 ≡ word = (bytes_eq-Decides row.0 word).0 same in
        let is : row.1 ≡ words.Section = cc in
        subst (λ (n : List ℕ). bytes_eq n (codes ".section") ≡ true) names (same_row row.0 row.1 is h)
    go false same e h ih = ih e

section_named : (word : List ℕ) → directive_named word ≡ Some words.Section → bytes_eq word (codes ".section") ≡ true
unfolding directive_named
section_named word e = go (named_in directive_words word) refl e
  where
    frame : (b : Bool) → cond b (Some words.Ignored) None ≡ Some words.Section → ⊥
    frame true h = cc
    frame false h = cc

    go : (o : Option DirectiveWord) → named_in directive_words word ≡ o → option_or o (frame_directive word) ≡ Some words.Section → bytes_eq word (codes ".section") ≡ true
    go (Some x) is e = in_table directive_words word rows_good (is ∙ e)
    go None is e = absurd (frame _ e)

pub section_of : (k : Kind) → begins k ≡ beginnings.Directive words.Section → is_section k ≡ true
unfolding beginning
section_of (NameToken word) h = go (mnemonic_named word) (directive_named word) refl h
  where
    go : (m : Option Mnemonic) (d : Option DirectiveWord) → directive_named word ≡ d → begun_by m d ≡ beginnings.Directive words.Section → bytes_eq word (codes ".section") ≡ true
    go (Some m) d is h = absurd (cc)
    go None (Some x) is h = let same : x ≡ words.Section = cc in section_named word (is ∙ ap (λ (y : DirectiveWord). Some y) same)
    go None None is h = absurd (cc)
section_of _ h = absurd (cc)

-- the other directives open nothing
chosen_open : (known : List ℕ → Bool) (o : Option Choice) → opens_well known (Directs (option_directive o)) ≡ true
chosen_open known None = refl
chosen_open known (Some choice) = refl

pub others_open : (known : List ℕ → Bool) (word : DirectiveWord) (os : List Operand) → is_section_word word ≡ false → opens_well known (Directs (directed word os)) ≡ true
unfolding is_section_word
others_open known words.Section os h = absurd (cc)
others_open known words.Set (Word name ∷ Value e ∷ []) h = refl
others_open known words.Set _ h = refl
others_open known words.AlignToPower (Value e ∷ []) h = refl
others_open known words.AlignToPower _ h = refl
others_open known words.AlignToBytes (Value e ∷ []) h = refl
others_open known words.AlignToBytes _ h = refl
others_open known words.Zero (Value e ∷ []) h = refl
others_open known words.Zero _ h = refl
others_open known words.Option (Word name ∷ []) h = chosen_open known (named_in choices name)
others_open known words.Option _ h = refl
others_open known word os h = refl
