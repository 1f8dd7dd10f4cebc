use Rattle.std.proofs.Common.{arith, subst, sym, ◌≡◌, ◌↔◌, ◌+ℤ◌, ℤ, ℕ, IsTrue, Bool, to_z, of_z, w64}
use Rattle.std.proofs.lemmas.Int.{ints}
use Rattle.rv_size_laws.specs.Offsets.{IsImmediate, Reaches}
use Rattle.rv_sizes.proofs.reach.reaches.Goals as goal

both : (back : ℕ) (addend distance x y : ℤ) (r : Bool) → x ≡ addend → y ≡ distance +ℤ addend → IsImmediate back x → IsTrue r ↔ IsImmediate back y
    → IsTrue r ↔ Reaches back addend distance
both back addend distance x y r d e alone t = (
  λ h. record { alone = subst (IsImmediate back) d alone; added = subst (IsImmediate back) e (t.0 h) },
  λ reach. t.1 (subst (IsImmediate back) (sym e) reach.added),
)

pub returns-then-is_immediate : goal.returns-then-is_immediate
returns-then-is_immediate c =
    let fits : c.args.addend ≡ to_z w64 (of_z w64 c.args.addend) = omega (arith, ints) in
    let alone : IsImmediate c.args.back (to_z w64 (of_z w64 c.args.addend)) = c.is_immediate.ensures.0 c.if-is_immediate.true in
    let low = alone.low in
    let high = alone.high in
    both c.args.back c.args.addend c.args.distance (to_z w64 (of_z w64 c.args.addend))
    (to_z w64 (of_z w64 (to_z w64 (of_z w64 c.args.distance) +ℤ to_z w64 (of_z w64 c.args.addend))))
    c.is_immediate-then-is_immediate.result (sym fits) (omega (arith, ints)) alone c.is_immediate-then-is_immediate.ensures
