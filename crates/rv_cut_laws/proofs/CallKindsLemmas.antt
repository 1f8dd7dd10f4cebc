-- What calls are among the kinds of relocations, and what is left of them.

use Rattle.std.proofs.Common.{◌≡◌, ◌⊎◌, inl, inr, Bool, true, false, cond, Some, length, refl, sym, ap, ◌∙◌}
use Rattle.std.specs.Prelude.{◌==◌}
use Rattle.rv_isa.specs.declared.kind.Kind.{Kind}
use Rattle.rv_isa.specs.declared.kind.Kind.TheVariants as kinds
use Rattle.rv_isa.specs.Kinds.{width_of}
use Rattle.rv_object_laws.specs.Valid.{is_align}
use Rattle.rv_link_laws.specs.Moves.{Move}
use Rattle.rv_link_laws.specs.CallSites.{is_call}
use Rattle.rv_cut_laws.specs.Cutting.{kind_left}

pub call_width : (k : Kind) → is_call k ≡ true → width_of k ≡ 8
call_width kinds.None h = absurd (cc)
call_width kinds.Abs32 h = absurd (cc)
call_width kinds.Abs64 h = absurd (cc)
call_width kinds.Branch h = absurd (cc)
call_width kinds.Jal h = absurd (cc)
call_width kinds.Call h = refl
call_width kinds.CallPlt h = refl
call_width kinds.PcrelHi20 h = absurd (cc)
call_width kinds.PcrelLo12I h = absurd (cc)
call_width kinds.PcrelLo12S h = absurd (cc)
call_width kinds.Hi20 h = absurd (cc)
call_width kinds.Lo12I h = absurd (cc)
call_width kinds.Lo12S h = absurd (cc)
call_width kinds.Add8 h = absurd (cc)
call_width kinds.Add16 h = absurd (cc)
call_width kinds.Add32 h = absurd (cc)
call_width kinds.Add64 h = absurd (cc)
call_width kinds.Sub8 h = absurd (cc)
call_width kinds.Sub16 h = absurd (cc)
call_width kinds.Sub32 h = absurd (cc)
call_width kinds.Sub64 h = absurd (cc)
call_width kinds.Align h = absurd (cc)
call_width kinds.RvcBranch h = absurd (cc)
call_width kinds.RvcJump h = absurd (cc)
call_width kinds.Relax h = absurd (cc)
call_width kinds.Sub6 h = absurd (cc)
call_width kinds.Set6 h = absurd (cc)
call_width kinds.Set8 h = absurd (cc)
call_width kinds.Set16 h = absurd (cc)
call_width kinds.Set32 h = absurd (cc)
call_width kinds.Pcrel32 h = absurd (cc)

pub call_no_align : (k : Kind) → is_call k ≡ true → is_align k ≡ false
call_no_align kinds.None h = absurd (cc)
call_no_align kinds.Abs32 h = absurd (cc)
call_no_align kinds.Abs64 h = absurd (cc)
call_no_align kinds.Branch h = absurd (cc)
call_no_align kinds.Jal h = absurd (cc)
call_no_align kinds.Call h = refl
call_no_align kinds.CallPlt h = refl
call_no_align kinds.PcrelHi20 h = absurd (cc)
call_no_align kinds.PcrelLo12I h = absurd (cc)
call_no_align kinds.PcrelLo12S h = absurd (cc)
call_no_align kinds.Hi20 h = absurd (cc)
call_no_align kinds.Lo12I h = absurd (cc)
call_no_align kinds.Lo12S h = absurd (cc)
call_no_align kinds.Add8 h = absurd (cc)
call_no_align kinds.Add16 h = absurd (cc)
call_no_align kinds.Add32 h = absurd (cc)
call_no_align kinds.Add64 h = absurd (cc)
call_no_align kinds.Sub8 h = absurd (cc)
call_no_align kinds.Sub16 h = absurd (cc)
call_no_align kinds.Sub32 h = absurd (cc)
call_no_align kinds.Sub64 h = absurd (cc)
call_no_align kinds.Align h = absurd (cc)
call_no_align kinds.RvcBranch h = absurd (cc)
call_no_align kinds.RvcJump h = absurd (cc)
call_no_align kinds.Relax h = absurd (cc)
call_no_align kinds.Sub6 h = absurd (cc)
call_no_align kinds.Set6 h = absurd (cc)
call_no_align kinds.Set8 h = absurd (cc)
call_no_align kinds.Set16 h = absurd (cc)
call_no_align kinds.Set32 h = absurd (cc)
call_no_align kinds.Pcrel32 h = absurd (cc)

pub left_width : (k : Kind) (m : Move) → (length m.text ≡ 2) ⊎ (length m.text ≡ 4) → width_of (kind_left k (Some m)) ≡ length m.text
left_width k m (inl two) = ap (λ n. width_of (cond (n == 2) kinds.RvcJump kinds.Jal)) two ∙ sym two
left_width k m (inr four) = ap (λ n. width_of (cond (n == 2) kinds.RvcJump kinds.Jal)) four ∙ sym four

pub left_no_align : (k : Kind) (m : Move) → is_align (kind_left k (Some m)) ≡ false
left_no_align k m = by (length m.text == 2)
  where
    by : (b : Bool) → is_align (cond b kinds.RvcJump kinds.Jal) ≡ false
    by true = refl
    by false = refl
