use Rattle.std.proofs.Common.{◌≡◌, Some, false, ◌<◌, ◌≤◌, ◌+◌, ◌-◌, [], ◌++◌, length, map, drop, get_or, sym, ap, ◌∙◌, subst, append-nil, arith, rules}
use Rattle.std.specs.Prelude.{option_map}
use Rattle.std.proofs.lemmas.List.{length-map, at_drop_all}
use Rattle.rv_list_laws.proofs.TakeDropLemmas.{drop_next}
use Rattle.rv_unit_laws.specs.Tables.{tables}
use Rattle.rv_unit.specs.Unit.{said, definition_of, IsFilled, IsScope}
use Rattle.rv_symbols.specs.declared.symbol_use.SymbolUse.{SymbolUse}
use Rattle.rv_symbols.specs.SymbolUse.{use_of, uses_of}
use Rattle.rv_symbols.specs.Found.{definition_in, is_here, next_ordinal, IsNext, Rises}
use Rattle.rv_symbols.proofs.UsingLemmas.{use_at, found_more, next_within, next_own}
use Rattle.rv_symbols.proofs.uses.definitions.Goals as goal

pub loop-symbol_use-preserved : goal.loop-symbol_use-preserved
loop-symbol_use-preserved c =
    let i = c.loop-symbol_use.symbol_use-index in
    let us = c.args.uses.now in
    let u = c.args.unit.now in
    let before = c.loop-symbol_use.scope in
    let after = c.pass.new.scope in
    let was = c.loop-symbol_use.ordinal in
    let item = c.symbol_use-item.result in
    let r = use_of item in
    let next = next_ordinal was r in
    let inside : i < length us = search rules in
    let used = use_at us i item inside ∙ ap (λ (x : SymbolUse). Some (use_of x)) (sym c.symbol_use-item.is) in
    let same : after.unit.now ≡ u = ap (λ b. b.now) c.pass.ensures.unit ∙ c.loop-symbol_use.invariant.unit in
    let is_next : c.next_ordinal-next.result ≡ next = c.next_ordinal-next.ensures in
    let counted : c.saturating_sub.result ≡ c.next_ordinal-next.result - was = search rules in
    let count : c.saturating_sub.result ≡ next - was = counted ∙ ap (λ n. n - was) is_next in
    let asked : IsFilled u → Rises 1 (length (said u)) (uses_of us) → IsNext was (length (said u)) r × Rises next (length (said u)) (drop (i + 1) (uses_of us)) = λ f h.
    subst (Rises was (length (said u))) (drop_next (uses_of us) i r used) (c.loop-symbol_use.invariant.rises f h) in
    let within : IsFilled u → Rises 1 (length (said u)) (uses_of us) → (was ≤ next) × (next ≤ length (said u) + 1) = λ f h.
    next_within was (length (said u)) r (asked f h).0 (c.loop-symbol_use.invariant.within f h) in
    let low : IsFilled u → Rises 1 (length (said u)) (uses_of us) → 1 ≤ next = λ f h.
    let a = (within f h).0 in
    let b = c.loop-symbol_use.invariant.low f h in
    omega arith in
    let scoped : IsFilled u → Rises 1 (length (said u)) (uses_of us) → IsScope after (next - 1) = λ f h.
    let a : was ≤ next = (within f h).0 in
    let b : next ≤ length (said u) + 1 = (within f h).1 in
    let d : 1 ≤ was = c.loop-symbol_use.invariant.low f h in
    let lengths : length (said u) ≡ length (said before.unit.now) = ap (λ x. length (said x)) (sym c.loop-symbol_use.invariant.unit) in
    let inside : was - 1 + c.saturating_sub.result ≤ length (said before.unit.now) = omega arith in
    let end : was - 1 + c.saturating_sub.result ≡ next - 1 = omega arith in
    subst (IsScope after) end (c.pass.ensures.passes (was - 1) inside (c.loop-symbol_use.invariant.scope f h)) in
    record {
      len = search rules;
      unit = same;
      low = λ f h. subst (λ n. 1 ≤ n) (sym is_next) (low f h);
      within = λ f h. subst (λ n. n ≤ length (said u) + 1) (sym is_next) (within f h).1;
      rises = λ f h. subst (λ n. Rises n (length (said u)) (drop (i + 1) (uses_of us))) (sym is_next) (asked f h).1;
      scope = λ f h. subst (λ n. IsScope after (n - 1)) (sym is_next) (scoped f h);
      found = λ f h.
          let t = tables (said u) in
          let at : is_here r.symbol ≡ false → (1 ≤ r.ordinal) × IsScope after (r.ordinal - 1) = λ e.
          let own : next ≡ r.ordinal = next_own was r e in (
            subst (λ n. 1 ≤ n) own (low f h),
            subst (λ n. IsScope after (n - 1)) own (scoped f h),
          ) in
          let is : option_map definition_of c.definition.result ≡ definition_in t r =
          c.definition.ensures (subst IsFilled (sym same) f) at ∙ ap (λ x. definition_in (tables (said x)) r) same in
          found_more t (uses_of us) i r c.loop-symbol_use.found.items c.push.new.self.items c.definition.result _ used c.in_ok-push.ensures.items is
          (c.loop-symbol_use.invariant.found f h);
    }

pub returns-clause-found : goal.returns-clause-found
returns-clause-found c = λ f h.
    let i = c.loop-symbol_use.symbol_use-index in
    let us = c.args.uses.now in
    let past : length us ≤ i = c.loop-symbol_use-test.false in
    let none : drop i (uses_of us) ≡ [] = at_drop_all (λ l. l) (uses_of us) i (subst (λ n. n ≤ i) (sym (length-map us use_of)) past) in
    sym (append-nil (map (option_map definition_of) c.loop-symbol_use.found.items))
    ∙ ap (λ l. map (option_map definition_of) c.loop-symbol_use.found.items ++ map (definition_in (tables (said c.args.unit.now))) l) (sym none)
    ∙ c.loop-symbol_use.invariant.found f h
