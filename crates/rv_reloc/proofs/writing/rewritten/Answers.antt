use Rattle.std.proofs.Common.{rules, ◌≡◌, ℕ, ℤ, w64, sym, ap, ◌∙◌, subst, inl, inr}
use Rattle.std.specs.Prelude.{◌⊎◌}
use Rattle.std.proofs.lemmas.Int.{to_z-of_z}
use Rattle.rv_isa.specs.declared.kind.Kind.{Kind}
use Rattle.rv_isa.specs.declared.kind.Kind.TheVariants as kind
use Rattle.rv_isa.specs.Kinds.{width_of}
use Rattle.rv_isa_laws.specs.Bytes.{little_endian}
use Rattle.rv_reloc_laws.specs.Fields.{written, with_halves}
use Rattle.rv_reloc.proofs.writing.rewritten.Goals as goal

-- the two kinds of a call are written alike
call : (k : Kind) (v : ℤ) (n r : ℕ) → (k ≡ kind.Call) ⊎ (k ≡ kind.CallPlt) → r ≡ with_halves v n → little_endian (width_of k) r ≡ little_endian (width_of k) (written k v n)
call k v n r (inl e) h = subst (λ k. little_endian (width_of k) r ≡ little_endian (width_of k) (written k v n)) (sym e) (ap (little_endian 8) h)
call k v n r (inr e) h = subst (λ k. little_endian (width_of k) r ≡ little_endian (width_of k) (written k v n)) (sym e) (ap (little_endian 8) h)

-- src/writing.rt:67:1
pub returns-in-Call : goal.returns-in-Call
returns-in-Call c =
    call c.args.kind c.args.value c.args.number c.with_both.result c.in-Call.is (c.with_both.ensures ∙ ap (λ v. with_halves v c.args.number) (to_z-of_z w64 c.args.value (search rules)))
