-- That a file is read in one way: each step of a walk from part to part is determined.

use Rattle.std.proofs.Common.{◌≡◌, ℕ, ◌+◌, ◌<◌, ◌≤◌, true, false, cond, List, [], ◌∷◌, length, Option, Some, None, refl, sym, ap, subst, ◌∙◌, arith}
use Rattle.std.specs.Prelude.{Result, Ok, Err, nat_lt, Bool}
use Rattle.std.proofs.lemmas.Bool.{ltb-false}
use Rattle.rv_archive_laws.specs.declared.fault.ArchiveFault.{ArchiveFault}
use Rattle.rv_archive_laws.specs.declared.fault.ArchiveFault.TheVariants.{Truncated}
use Rattle.rv_archive_laws.specs.Parts.{ArchivePart, part_at, head_size, next_place, magic_fault, magic_size, StandInRow, Stops, FindsParts}
use Rattle.rv_archive_laws.specs.Reads.{Archive, archive_of, Reads, ReadsBehind}

-- where a part stands, the file goes on
part_by : (file : List ℕ) (place : ℕ) (r : Result ArchivePart ArchiveFault) (b : Bool) → nat_lt (length file) (place + head_size) ≡ b → (h : ArchivePart) → cond b (Err Truncated) r ≡ Ok h → place + head_size ≤ length file
part_by file place r true test h is = cc
part_by file place r false test h is = ltb-false _ _ test

pub part_within : (file : List ℕ) (place : ℕ) (h : ArchivePart) → part_at file place ≡ Ok h → place < length file
unfolding part_at
part_within file place h is =
    let within = part_by file place _ _ refl h is in omega (arith, within)

-- one answer is not two
not_both : {X F : Type 0} (r : Result X F) (fault : F) (x : X) → r ≡ Err fault → r ≡ Ok x → ⊥
not_both r fault x refused given = cc

one_fault : {X F : Type 0} (r : Result X F) (f g : F) → r ≡ Err f → r ≡ Err g → f ≡ g
one_fault r f g a b = cc

one_value : {X F : Type 0} (r : Result X F) (x y : X) → r ≡ Ok x → r ≡ Ok y → x ≡ y
one_value r x y a b = cc

none_is_some : {X : Type 0} (x : X) → None ≡ Some x → ⊥
none_is_some x is = cc

some_same : {X : Type 0} (x y : X) → Some x ≡ Some y → x ≡ y
some_same x y is = cc

-- two walks from a place
one_walk : (file : List ℕ) (place : ℕ) (hs ks : List ArchivePart) (end stop : ℕ) (f g : Option ArchiveFault)
    → StandInRow file place hs end → Stops file end f → StandInRow file place ks stop → Stops file stop g → (hs ≡ ks) × (f ≡ g)
one_walk file place [] [] end stop None None s p t q = (refl, refl)
one_walk file place [] [] end stop None (Some g) s p t q = absurd (omega (arith, s, p, t, q.0))
one_walk file place [] [] end stop (Some f) None s p t q = absurd (omega (arith, s, p.0, t, q))
one_walk file place [] [] end stop (Some f) (Some g) s p t q =
    (refl, ap (λ x. Some x) (one_fault (part_at file end) f g p.1 (ap (part_at file) (sym s ∙ t) ∙ q.1)))
one_walk file place [] (k ∷ ks) end stop None g s p t q = absurd (omega (arith, s, p, part_within file place k t.0))
one_walk file place [] (k ∷ ks) end stop (Some f) g s p t q = absurd (not_both (part_at file end) f k p.1 (ap (part_at file) (sym s) ∙ t.0))
one_walk file place (h ∷ hs) [] end stop f None s p t q = absurd (omega (arith, t, q, part_within file place h s.0))
one_walk file place (h ∷ hs) [] end stop f (Some g) s p t q = absurd (not_both (part_at file stop) g h q.1 (ap (part_at file) (sym t) ∙ s.0))
one_walk file place (h ∷ hs) (k ∷ ks) end stop f g s p t q =
    let same = one_value (part_at file place) h k s.0 t.0 in
    let rest = one_walk file (next_place h) hs ks end stop f g s.1 p (subst (λ x. StandInRow file (next_place x) ks stop) (sym same) t.1) q in
    ((λ i. same i ∷ rest.0 i), rest.1)

one_finding : (file : List ℕ) (place : ℕ) (r s : Result (List ArchivePart) ArchiveFault) → FindsParts file place r → FindsParts file place s → r ≡ s
one_finding file place (Ok hs) (Ok ks) p q = ap (λ xs. Ok xs) (one_walk file place hs ks p.0 q.0 None None p.1 p.2 q.1 q.2).0
one_finding file place (Ok hs) (Err g) p q = absurd (none_is_some g (one_walk file place hs q.0 p.0 q.1 None (Some g) p.1 p.2 q.2 q.3).1)
one_finding file place (Err f) (Ok ks) p q = absurd (none_is_some f (sym (one_walk file place p.0 ks p.1 q.0 (Some f) None p.2 p.3 q.1 q.2).1))
one_finding file place (Err f) (Err g) p q = ap (λ x. Err x) (some_same f g (one_walk file place p.0 q.0 p.1 q.1 (Some f) (Some g) p.2 p.3 q.2 q.3).1)

by_magic : (file : List ℕ) (m : Option ArchiveFault) (r s : Result Archive ArchiveFault) → ReadsBehind file m r → ReadsBehind file m s → r ≡ s
by_magic file (Some fault) r s p q = p ∙ sym q
by_magic file None r s p q = p.2 ∙ ap archive_of (one_finding file magic_size p.0 q.0 p.1 q.1) ∙ sym q.2

pub one_reading : (file : List ℕ) (r s : Result Archive ArchiveFault) → Reads file r → Reads file s → r ≡ s
one_reading file r s = by_magic file (magic_fault file) r s
