-- The lines of a raw listing that are no instructions: its options, its global, and the label of
-- its entry.

use Rattle.std.proofs.Common.{ℕ, List, [], ◌∷◌, ◌++◌, refl, arith, codes}
use Rattle.rv_isa.specs.RegisterNames.{abi_names}
use Rattle.rv_expression_laws.specs.declared.punct.Punct.TheVariants as puncts
use Rattle.rv_expression_laws.specs.Grammar.{Punctuation, Stops}
use Rattle.rv_expression_laws.specs.Lexing.{placed}
use Rattle.rv_statement_laws.specs.declared.directive.DirectiveWord.TheVariants as words
use Rattle.rv_statement_laws.specs.declared.directive.Binding.TheVariants.{Global}
use Rattle.rv_statement_laws.specs.declared.directive.Choice.TheVariants.{Norvc, Norelax}
use Rattle.rv_statement_laws.specs.Statement.{Word, Label, Directs, Chooses as Choosing, Binds}
use Rattle.rv_parse_laws.specs.Words.{register, register_names, choices, beginning, mnemonic_named, directive_named, instruction_words, atomic_operations, atomic_forms, directive_words}
use Rattle.rv_parse_laws.specs.Syntax.{is_symbol}
use Rattle.rv_raw_theorems.proofs.LexemesLemmas.{lexeme, word, blank, name_spells, name_stops}
use Rattle.rv_raw_theorems.proofs.WordsLemmas.{IsLineOf, blank_class}

colon_stops : (rest : List ℕ) → Stops (Punctuation puncts.Colon) rest
colon_stops [] = tt
colon_stops (b ∷ bs) = refl

pub norvc_line : IsLineOf (codes ".option norvc") (Directs (Choosing Norvc))
unfolding beginning mnemonic_named directive_named instruction_words atomic_operations atomic_forms directive_words choices
norvc_line = record {
  name = codes ".option";
  more = blank ∷ word (codes "norvc") ∷ [];
  is_text = refl;
  stand = λ rest b. (name_spells (codes ".option") refl, refl, ((32, refl, blank_class), refl, (name_spells (codes "norvc") refl, name_stops (codes "norvc") rest b, tt)));
  in_lines = refl;
  says = λ before.
      let after = (before ++ codes ".option") ++ 32 ∷ [] in
      let t = placed after (word (codes "norvc")) in
      (placed before (word (codes ".option")), t ∷ [], words.Option, Word (codes "norvc") ∷ [], refl, refl, refl, (t ∷ [], [], Word (codes "norvc") ∷ [], [], refl, (t, refl, refl), (refl, refl), refl), refl);
  opens = λ known. refl;
  long = omega arith;
  short = omega arith;
}

pub norelax_line : IsLineOf (codes ".option norelax") (Directs (Choosing Norelax))
unfolding beginning mnemonic_named directive_named instruction_words atomic_operations atomic_forms directive_words choices
norelax_line = record {
  name = codes ".option";
  more = blank ∷ word (codes "norelax") ∷ [];
  is_text = refl;
  stand = λ rest b. (name_spells (codes ".option") refl, refl, ((32, refl, blank_class), refl, (name_spells (codes "norelax") refl, name_stops (codes "norelax") rest b, tt)));
  in_lines = refl;
  says = λ before.
      let after = (before ++ codes ".option") ++ 32 ∷ [] in
      let t = placed after (word (codes "norelax")) in
      (placed before (word (codes ".option")), t ∷ [], words.Option, Word (codes "norelax") ∷ [], refl, refl, refl, (t ∷ [], [], Word (codes "norelax") ∷ [], [], refl, (t, refl, refl), (refl, refl), refl), refl);
  opens = λ known. refl;
  long = omega arith;
  short = omega arith;
}

pub global_line : IsLineOf (codes ".globl _start") (Directs (Binds Global (codes "_start" ∷ [])))
unfolding beginning mnemonic_named directive_named instruction_words atomic_operations atomic_forms directive_words is_symbol register register_names abi_names
global_line = record {
  name = codes ".globl";
  more = blank ∷ word (codes "_start") ∷ [];
  is_text = refl;
  stand = λ rest b. (name_spells (codes ".globl") refl, refl, ((32, refl, blank_class), refl, (name_spells (codes "_start") refl, name_stops (codes "_start") rest b, tt)));
  in_lines = refl;
  says = λ before.
      let after = (before ++ codes ".globl") ++ 32 ∷ [] in
      let t = placed after (word (codes "_start")) in
      (placed before (word (codes ".globl")), t ∷ [], words.Binds Global, Word (codes "_start") ∷ [], refl, refl, refl, (1, (t, refl, refl)), refl);
  opens = λ known. refl;
  long = omega arith;
  short = omega arith;
}

pub label_line : IsLineOf (codes "_start:") (Label (codes "_start"))
unfolding is_symbol register register_names abi_names
label_line = record {
  name = codes "_start";
  more = lexeme (Punctuation puncts.Colon) (58 ∷ []) ∷ [];
  is_text = refl;
  stand = λ rest b. (name_spells (codes "_start") refl, refl, (refl, colon_stops rest, tt));
  in_lines = refl;
  says = λ before. (placed before (word (codes "_start")), placed (before ++ codes "_start") (lexeme (Punctuation puncts.Colon) (58 ∷ [])), refl, refl, refl);
  opens = λ known. refl;
  long = omega arith;
  short = omega arith;
}
