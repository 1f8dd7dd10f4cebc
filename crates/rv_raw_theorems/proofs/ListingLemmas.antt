-- All lines of a raw listing are its statements.

use Rattle.std.proofs.Common.{ℕ, List, [], ◌∷◌, ◌++◌, map}
use Rattle.std.specs.List.{AllByRecursion}
use Rattle.rv_isa.specs.Operations.{format_of}
use Rattle.rv_statement_laws.specs.Statement.{StatementKind}
use Rattle.rv_listing_laws.specs.declared.code.Code.{Code}
use Rattle.rv_listing_laws.specs.declared.code.Code.TheVariants.{Word, Parcel}
use Rattle.rv_listing_laws.specs.Raw.{IsSourced, code_text, raw_lines}
use Rattle.rv_raw_theorems.specs.Statements.{code_statement, raw_statements}
use Rattle.rv_raw_theorems.proofs.WordsLemmas.{IsLineOf, word_is}
use Rattle.rv_raw_theorems.proofs.ParcelsLemmas.{parcel_is}
use Rattle.rv_raw_theorems.proofs.HeaderLemmas.{norvc_line, norelax_line, global_line, label_line}
use Rattle.rv_raw_theorems.proofs.LinesLemmas.{AreLines}

code_is : (code : Code) → IsSourced code → IsLineOf (code_text code) (code_statement code)
code_is (Word i) sourced = word_is (format_of i) sourced.0 sourced.1
code_is (Parcel form) sourced = parcel_is form sourced.0 sourced.1

codes_are : (cs : List Code) → AllByRecursion IsSourced cs → AreLines (map code_text cs) (map code_statement cs)
codes_are [] sourced = tt
codes_are (c ∷ cs) sourced = (code_is c sourced.0, codes_are cs sourced.1)

-- with what stands after them
codes_before : (before after : List Code) (ts : List (List ℕ)) (ks : List StatementKind) → AllByRecursion IsSourced (before ++ after) → (AllByRecursion IsSourced after → AreLines ts ks)
    → AreLines (map code_text before ++ ts) (map code_statement before ++ ks)
codes_before [] after ts ks sourced more = more sourced
codes_before (c ∷ cs) after ts ks sourced more = (code_is c sourced.0, codes_before cs after ts ks sourced.1 more)

pub listing_is : (before after : List Code) → AllByRecursion IsSourced (before ++ after) → AreLines (raw_lines before after) (raw_statements before after)
listing_is before after sourced = (norvc_line, (norelax_line, (global_line, codes_before before after _ _ sourced (λ rest. (label_line, codes_are after rest)))))
