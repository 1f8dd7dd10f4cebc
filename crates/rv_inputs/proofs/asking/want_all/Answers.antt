use Rattle.std.proofs.Common.{◌≡◌, true, false, take, Bor, List, ℕ, Some, ap, sym, subst, ◌∙◌, arith}
use Rattle.std.specs.Prelude.{◌||◌}
use Rattle.std.specs.BTreeSet.{contains}
use Rattle.std.specs.List.{slice_get}
use Rattle.std.specs.Ordering.{nat_cmp}
use Rattle.std.proofs.lemmas.List.{take_all}
use Rattle.rv_archive_laws.specs.Taken.{has_name}
use Rattle.rv_inputs.specs.Plain.{plain_texts}
use Rattle.rv_inputs.proofs.StandingLemmas.{want_step, asked_by, none_of_both}
use Rattle.rv_inputs.proofs.asking.want_all.Goals as goal

pub loop-i-preserved : goal.loop-i-preserved
loop-i-preserved c =
    let names = c.args.names.now in let i = c.loop-i.i in let was = c.loop-i.invariant in record {
      stand = λ given wanted stand.
          want_step c.want.new.standings given wanted names i _ c.loop-i-test.true
          (c.in_ok-want.ensures.stand given (λ q. wanted q || has_name (plain_texts (take i names)) q) (was.stand given wanted stand));
      kept = λ j h. c.in_ok-want.ensures.kept j (was.kept j h);
      asked = λ given wanted offered stand chains j q here g w has.
          asked_by (contains nat_cmp c.want.new.pending j ≡ true) names i _ c.loop-i-test.true q has
          (λ before. c.in_ok-want.ensures.kept j (was.asked given wanted offered stand chains j q here g w before))
          (λ fresh same. c.in_ok-want.ensures.asked given (λ n. wanted n || has_name (plain_texts (take i names)) n) offered (was.stand given wanted stand) chains j
          (subst (λ n. slice_get offered j ≡ Some (Some n)) same here) (sym (ap given same) ∙ g)
          (subst (λ n. (wanted n || has_name (plain_texts (take i names)) n) ≡ false) same (none_of_both (wanted q) (has_name (plain_texts (take i names)) q) w fresh)));
    }

pub returns-clause-asked : goal.returns-clause-asked
returns-clause-asked c = λ given wanted offered stand chains j q here g w has.
    let all : take c.loop-i.i c.args.names.now ≡ c.args.names.now = take_all c.loop-i.i c.args.names.now (omega (arith, c.loop-i-test.false)) in
    c.loop-i.invariant.asked given wanted offered stand chains j q here g w (subst (λ (ns : List (Bor (List ℕ))). has_name (plain_texts ns) q ≡ true) (sym all) has)
