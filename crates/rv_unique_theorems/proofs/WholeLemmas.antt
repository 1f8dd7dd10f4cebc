-- Programs of objects are links of what collection and relaxation leave of them, and refusals are its refusals.

use Rattle.std.proofs.Common.{◌≡◌, ℕ, Bool, List, sym, subst}
use Rattle.rv_image_laws.specs.Linked.{Linked}
use Rattle.rv_object_laws.specs.Object.{Object}
use Rattle.rv_link_laws.specs.declared.bounds.Ground.{Ground}
use Rattle.rv_link_laws.specs.IsLinkOf.{IsLinkOf}
use Rattle.rv_link_laws.specs.Without.{without}
use Rattle.rv_link_laws.specs.IsProgramOf.{IsProgramOf}
use Rattle.rv_link_laws.specs.Refusals.{IsUnlinked, HasNoProgram, IsSameFault}
use Rattle.rv_fault.specs.declared.link_fault.LinkFault.{LinkFault}
use Rattle.rv_fault.specs.declared.link_fault.LinkFault.TheVariants.{OutOfMemory}
use Rattle.rv_unique_theorems.specs.Asked.{HavePlacedRows, LeavesEven}
use Rattle.rv_unique_theorems.proofs.LeftLemmas.{left_placed}
use Rattle.rv_unique_theorems.proofs.WithoutLemmas.{one_leaves, without_placed}
use Rattle.rv_unique_theorems.proofs.ProgramLemmas.{same_program}
use Rattle.rv_unique_theorems.proofs.RefusedLemmas.{refused}
use Rattle.rv_unique_theorems.proofs.ReasonsLemmas.{one_reason}

module _ (os : List Object) (bounds : Ground) (relax gc : Bool) where
  pub one_program : (l m : Linked) → HavePlacedRows os → IsProgramOf os bounds relax gc l → IsProgramOf os bounds relax gc m → l ≡ m
  one_program l m placed a b =
      let same = one_leaves os relax gc l.map.drops m.map.drops a.left b.left a.leaves b.leaves in
      same_program a.left bounds l m (left_placed relax (without l.map.drops os) a.left a.leaves.relaxed (without_placed l.map.drops os placed)) a.linked
      (subst (λ left. IsLinkOf left bounds m) same.1 b.linked) (sym same.0)

  pub never_both : (l : Linked) (fault : LinkFault) → IsProgramOf os bounds relax gc l → HasNoProgram os bounds relax gc fault → fault ≡ OutOfMemory
  never_both l fault a b =
      let same = one_leaves os relax gc l.map.drops b.drops a.left b.left a.leaves b.leaves in
      refused a.left bounds l a.linked fault (subst (λ left. IsUnlinked left bounds fault) same.1 b.unlinked)

  pub one_refusal : (f g : LinkFault) → LeavesEven os bounds.text relax gc
      → HasNoProgram os bounds relax gc f → (f ≡ OutOfMemory → ⊥) → HasNoProgram os bounds relax gc g → (g ≡ OutOfMemory → ⊥) → IsSameFault f g
  one_refusal f g even a known b same_known =
      let same = one_leaves os relax gc a.drops b.drops a.left b.left a.leaves b.leaves in
      one_reason a.left bounds (even a.drops a.left a.leaves) f g a.unlinked known (subst (λ left. IsUnlinked left bounds g) same.1 b.unlinked) same_known
