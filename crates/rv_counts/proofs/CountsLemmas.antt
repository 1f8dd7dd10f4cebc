-- All that is counted, with one event more.

use Rattle.std.proofs.Common.{◌≡◌, ℕ, ◌+◌, ◌<◌, ◌≤◌, ◌^◌, Bool, false, ◌&&◌, List, [], ◌∷◌, ◌++◌, length, refl, sym, ap, ◌∙◌, subst, slice_index, arith, length-append}
use Rattle.std.proofs.lemmas.List.Sums.{fold-append}
use Rattle.rv_isa.specs.declared.instruction.Inst.{Inst}
use Rattle.rv_isa_laws.specs.Run.{Fetched, Got, NoRight, NoInstruction}
use Rattle.rv_event_laws.specs.Event.{Event}
use Rattle.rv_event_laws.specs.Changes.{with_set}
use Rattle.rv_counts.specs.declared.rows.CountedInstruction.{CountedInstruction}
use Rattle.rv_counts.specs.declared.rows.Done.{Done}
use Rattle.rv_counts.specs.declared.totals.Totals.{Totals}
use Rattle.rv_counts.specs.Kinds.{more}
use Rattle.rv_counts.specs.Totals.{one_if, with_event}
use Rattle.rv_counts.specs.Counted.{is_spelled, is_of, has_executed, has_branched, has_called, start_registers, told_registers, ends_in_call, executions, branches_taken, times_called}
use Rattle.rv_counts.specs.Rows.{sum_of, no_row, with_done, AreSpelled, HasCounted, IsNoted}
use Rattle.rv_counts.proofs.TotalsLemmas.{one_more}
use Rattle.rv_counts.proofs.CountedLemmas.{executions_more, taken_more, calls_more, executions-le, taken-le, calls-le}
use Rattle.rv_counts.specs.declared.depth.Depth.{Depth}
use Rattle.rv_counts.specs.Depth.{is_begun, with_sp, HasDepth}
use Rattle.rv_counts.proofs.DepthLemmas.{depth_more}
use Rattle.rv_counts.proofs.RowsLemmas.{all, sum_more}

-- one of the three counts: its number of an event more is greater by one where the event is of what
-- passes, and `one` says that it did that
grown : (count : CountedInstruction → ℕ) (number : (ℕ → Inst → Bool) → List Event → ℕ) (one : Bool) (rows rows' : List CountedInstruction) (past : List Event) (e : Event) (done : Done) → ((pc bits : ℕ) (inst : Inst) (bytes : ℕ) → count (no_row pc bits inst bytes) ≡ 0) → ((row : CountedInstruction) → count (with_done row done) ≡ more (count row) (one_if one)) → ((test : ℕ → Inst → Bool) → number test (past ++ (e ∷ [])) ≡ number test past + one_if (is_of test e && one)) → number all past ≤ length past → length past + 1 < 2 ^ 64 → ((test : ℕ → Inst → Bool) → sum_of test count rows ≡ number test past) → (f : Fetched) → e.fetched ≡ f → IsNoted rows rows' e.pc f done → (test : ℕ → Inst → Bool) → sum_of test count rows' ≡ number test (past ++ (e ∷ []))
grown count number one rows rows' past e done none adds next least short so_far (Got i bytes) is noted test =
    let fits : sum_of all count rows + 1 < 2 ^ 64 = omega (arith, so_far all) in
    let sum = sum_more test count one rows rows' e.pc i done (λ bits bytes. none e.pc bits i bytes) adds noted fits in
    let passes : one_if (is_of test e && one) ≡ one_if (test e.pc i && one) = ap (λ (f : Fetched). one_if (is_spelled (test e.pc) f && one)) is in
    omega (arith, sum, so_far test, next test, passes)
grown count number one rows rows' past e done none adds next least short so_far NoRight is noted test =
    let same : sum_of test count rows' ≡ sum_of test count rows = ap (λ rows. sum_of test count rows) noted in
    let passes : one_if (is_of test e && one) ≡ 0 = ap (λ (f : Fetched). one_if (is_spelled (test e.pc) f && one)) is in
    omega (arith, same, so_far test, next test, passes)
grown count number one rows rows' past e done none adds next least short so_far NoInstruction is noted test =
    let same : sum_of test count rows' ≡ sum_of test count rows = ap (λ rows. sum_of test count rows) noted in
    let passes : one_if (is_of test e && one) ≡ 0 = ap (λ (f : Fetched). one_if (is_spelled (test e.pc) f && one)) is in
    omega (arith, same, so_far test, next test, passes)

pub one_event_more : (sums sums' : Totals) (rows rows' : List CountedInstruction) (registers registers' : List ℕ) (called called' : Bool) (depth depth' : Depth) (done : Done) (past : List Event) (e : Event) → HasCounted sums rows registers called depth past → sums' ≡ with_event sums e → done ≡ record { executed = has_executed e; taken = has_branched registers e; called = called } → IsNoted rows rows' e.pc e.fetched done → registers' ≡ with_set e.set registers → called' ≡ has_called e → depth' ≡ with_sp depth (is_begun e) (slice_index registers' 2) → AreSpelled rows' → HasCounted sums' rows' registers' called' depth' (past ++ (e ∷ []))
one_event_more sums sums' rows rows' registers registers' called called' depth depth' done past e has sums_are did noted set is went spelled =
    let longer = length-append past (e ∷ []) in
    let before = told_registers past in
    let was = ends_in_call past in
    let executed : done.executed ≡ has_executed e = ap (λ (d : Done). d.executed) did in
    let taken : done.taken ≡ has_branched before e = ap (λ (d : Done). d.taken) did ∙ ap (λ (l : List ℕ). has_branched l e) has.told in
    let came : done.called ≡ was = ap (λ (d : Done). d.called) did ∙ has.call in
    record {
      totals = one_more sums sums' past e has.totals sums_are;
      spelled = spelled;
      counts =
          λ short.
          let fits : length past + 1 < 2 ^ 64 = omega arith in
          let so_far = has.counts (omega arith) in
          record {
            executed =
                grown (λ row. row.count) executions (has_executed e) rows rows' past e done (λ pc bits inst bytes. refl) (λ row. ap (λ (b : Bool). more row.count (one_if b)) executed) (λ test. executions_more test past e) (executions-le all past) fits so_far.executed e.fetched refl noted;
            taken =
                grown (λ row. row.taken) branches_taken (has_branched before e) rows rows' past e done (λ pc bits inst bytes. refl) (λ row. ap (λ (b : Bool). more row.taken (one_if b)) taken) (λ test. taken_more test start_registers past e) (taken-le all start_registers past) fits so_far.taken e.fetched refl noted;
            called =
                grown (λ row. row.calls) times_called was rows rows' past e done (λ pc bits inst bytes. refl) (λ row. ap (λ (b : Bool). more row.calls (one_if b)) came) (λ test. calls_more test false past e) (calls-le all false past) fits so_far.called e.fetched refl noted;
          };
      told = set ∙ ap (λ (l : List ℕ). with_set e.set l) has.told ∙ sym (fold-append (λ registers e. with_set e.set registers) start_registers past (e ∷ []));
      call = is ∙ sym (fold-append (λ called e. has_called e) false past (e ∷ []));
      deep = subst (λ (d : Depth). HasDepth d (past ++ (e ∷ []))) (sym (went ∙ ap (λ (l : List ℕ). with_sp depth (is_begun e) (slice_index l 2)) (set ∙ ap (λ (l : List ℕ). with_set e.set l) has.told))) (depth_more depth past e has.deep);
    }
