-- A token that is taken somewhere is not the last of its source: what rv_parse_laws shows of each slot, and of `.option`.

use Rattle.std.proofs.Common.{◌≡◌, ℕ, false, Some, refl}
use Rattle.rv_expression_laws.specs.Grammar.{Kind, Name as NameToken}
use Rattle.rv_expression_laws.specs.Lexing.{is_last}
use Rattle.rv_parcel.specs.declared.parcel.RegisterSet.{RegisterSet}
use Rattle.rv_parcel.specs.declared.parcel.RegisterSet.TheVariants.{Any}
use Rattle.rv_statement_laws.specs.declared.directive.Choice.{Choice}
use Rattle.rv_parse_laws.specs.Syntax.{register_of, kept_in}
use Rattle.rv_parse_words.specs.View.{choice_of}
pub use Rattle.rv_parse_laws.proofs.LastTokensLemmas.{register_no_last, percent_no_last, function_no_last, label_no_last, accesses_no_last, zero_no_last, opening_no_last, closing_no_last, comma_no_last, colon_no_last, at_no_last, plt_no_last, symbol_no_last, string_no_last, type_no_last, any_no_last, last_width}

pub choice_no_last : (k : Kind) (choice : Choice) → choice_of k ≡ Some choice → is_last k ≡ false
choice_no_last (NameToken word) choice h = refl
choice_no_last _ choice h = absurd (cc)

pub register_in_no_last : (set : RegisterSet) (k : Kind) (r : ℕ) → kept_in set (register_of k) ≡ Some r → is_last k ≡ false
register_in_no_last Any k r h = register_no_last k r h
register_in_no_last _ (NameToken name) r h = refl
register_in_no_last _ _ r h = absurd (cc)
