use Rattle.std.proofs.Common.{ℕ, ◌≤◌, ◌∙◌, ◌+◌, ◌<◌, ◌++◌, [], ◌∷◌, length, map, set, sym, ap, subst, arith}
use Rattle.std.proofs.lemmas.List.{length-map, length-set, map-set}
use Rattle.rv_list_laws.proofs.MapLemmas.{get_map_read}
use Rattle.rv_statement_laws.specs.Statement.{Statement}
use Rattle.rv_statement.specs.declared.statement.Statement.{Statement as SourceStatement}
use Rattle.rv_statement.specs.View.{statement_of}
use Rattle.rv_assemble.proofs.NumberingLemmas.{numbered_next, all_numbered, all_had}
use Rattle.rv_assemble.proofs.placed.number.Goals.{After-loop-index}
use Rattle.rv_assemble.proofs.placed.number.Goals as goal

-- a statement at this line, and its line
abbrev at_line : ℕ → SourceStatement → Statement
at_line line s = record { line = line; kind = (statement_of s).kind }

abbrev line_in : SourceStatement → ℕ
line_in s = (statement_of s).line

pub loop-index-preserved : goal.loop-index-preserved
loop-index-preserved c =
    let now = c.loop-index.statements in
    let i = c.loop-index.index in
    let x = c.index-statements-index.result in
    let lines = c.loop-index.lines.items in
    let new = c.replace_line-line.new.statement in
    let inside : i < length now = omega arith in
    let here = sym c.index-statements-index.is in
    record {
      so = numbered_next i _ (map statement_of now) _ lines _ (statement_of x) c.loop-index.invariant.so (get_map_read statement_of now i x inside c.index-statements-index.is)
          (map-set statement_of now i new ∙ ap (set (map statement_of now) i) (c.replace_line-line.ensures.new ∙ ap (at_line (i + 1)) here))
          (c.in_ok-push.ensures.items ∙ ap (λ n. lines ++ n ∷ []) (c.replace_line-line.ensures.old ∙ ap line_in here));
      same = length-set now i new ∙ c.loop-index.invariant.same;
    }

-- all are gone over
past : (c : After-loop-index) → length (map statement_of c.loop-index.statements) ≤ c.loop-index.index
past c = subst (λ n. n ≤ c.loop-index.index) (sym (length-map c.loop-index.statements statement_of ∙ c.loop-index.invariant.same)) c.loop-index-test.false

pub returns-clause-numbered : goal.returns-clause-numbered
returns-clause-numbered c = all_numbered c.loop-index.index _ (map statement_of c.loop-index.statements) c.loop-index.lines.items (past c) c.loop-index.invariant.so

pub returns-clause-lines : goal.returns-clause-lines
returns-clause-lines c = all_had c.loop-index.index _ (map statement_of c.loop-index.statements) c.loop-index.lines.items (past c) c.loop-index.invariant.so
