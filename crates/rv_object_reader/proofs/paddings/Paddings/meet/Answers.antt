use Rattle.std.proofs.Common.{rules, ◌≡◌, ◌&&◌, true, false, ℕ, ◌+◌, Bool, refl, sym, ap, ◌∙◌, nat_lt}
use Rattle.std.specs.Ordering.{nat_cmp}
use Rattle.std.specs.declared.ops.Bound.TheVariants.{Included, Unbounded}
use Rattle.std.specs.BTreeMap.Range.{range_contains}
use Rattle.rv_object_reader.proofs.EntriesLemmas.{first_meets, from_next, first_before, none_met}
use Rattle.rv_object_reader.proofs.paddings.Paddings.meet.Goals as goal

test : (a : ℕ) (e : ℕ × ℕ) → range_contains nat_cmp (Included (a + 1)) Unbounded e.0 ≡ nat_lt a e.0
test a e = ap (λ b. b && true) (from_next a e.0) ∙ always (nat_lt a e.0) where
  always : (b : Bool) → (b && true) ≡ b
  always true = refl
  always false = refl

pub returns-then-is_empty : goal.returns-then-is_empty
returns-then-is_empty c = sym (none_met c.args.self.now.by_end.entries c.args.start c.args.end (c.is_empty.ensures.0 c.if-is_empty.true))

pub returns-in-Some : goal.returns-in-Some
returns-in-Some c = sym (first_meets _ c.args.self.now.by_end.entries c.args.start c.args.end (test c.args.start) c.args.self.now.spread
    ∙ ap (first_before c.args.end) (sym (c.range.ensures.between (search rules)) ∙ c.in-Some.ensures.steps))

pub returns-in-None : goal.returns-in-None
returns-in-None c = sym (first_meets _ c.args.self.now.by_end.entries c.args.start c.args.end (test c.args.start) c.args.self.now.spread
    ∙ ap (first_before c.args.end) (sym (c.range.ensures.between (search rules)) ∙ c.in-None.ensures.steps.0))
