use Rattle.std.proofs.Common.{rules, tests, ◌≡◌, ◌&&◌, not, ℕ, ◌-◌, sym, ap, ◌∙◌, nat_lt, nat_le, arith}
use Rattle.std.specs.Ordering.{nat_cmp}
use Rattle.std.specs.declared.ops.Bound.TheVariants.{Included, Excluded}
use Rattle.std.specs.BTreeMap.Range.{range_contains}
use Rattle.std.proofs.lemmas.Bool.Decides.{nat_tests}
use Rattle.std.proofs.lemmas.Iterator.Consumers.{YieldsList-from_rest}
use Rattle.std.proofs.lemmas.Iterator.Search.{any_from_yields_List}
use Rattle.rv_object_reader.proofs.EntriesLemmas.{short_meets, from_here, ends_after}
use Rattle.rv_object_reader.proofs.fields.Fields.meet.Goals as goal

test : (m a b : ℕ) → m ≡ a - 8 → (e : ℕ × ℕ) → range_contains nat_cmp (Included m) (Excluded b) e.0 ≡ (nat_le (a - 8) e.0 && nat_lt e.0 b)
test m a b same e = rw (from_here m e.0, from_here b e.0) (ap (λ n. nat_le n e.0 && not (nat_le b e.0)) same ∙ ap (λ t. nat_le (a - 8) e.0 && t) below) where
  below : not (nat_le b e.0) ≡ nat_lt e.0 b
  below = grind (arith, nat_tests)

pub returns : goal.returns
returns c =
    any_from_yields_List (ends_after c.args.start) _ _ c.any.result c.any.ensures.ran (YieldsList-from_rest _ (c.range.ensures.between (search rules))) (λ x b q k. search (rules, tests))
    ∙ sym (short_meets _ c.args.self.now.by_start.entries c.args.start c.args.end
    (test c.saturating_sub-earliest.result c.args.start c.args.end c.saturating_sub-earliest.ensures) c.args.self.now.short)
