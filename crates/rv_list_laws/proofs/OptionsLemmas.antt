-- Options: whether there is a value, what holds of it, and what a map leaves of it.

use Rattle.std.proofs.Common.{◌≡◌, Option, Some, None, is_some, refl, Bor, option_copied, sym, subst, option_map, ap, false, Bool, true, cond}
use Rattle.std.specs.Prelude.{IfNone, IfSome}
use Rattle.std.specs.Option.{option_or}

pub copied_some : {A : Type 0} (o : Option (Bor A)) → is_some (option_copied o) ≡ is_some o
copied_some None = refl
copied_some (Some x) = refl

pub if_none : {T P : Type 0} (r : Option T) → P → IfNone r P
if_none None h = h
if_none (Some x) h = tt

pub if_some : {X : Type 0} (P : X → Type 0) (o : Option X) (x : X) → o ≡ Some x → P x → IfSome o P
if_some P o x e p = subst (λ q. IfSome q P) (sym e) p

pub if_some_map : {X : Type 0} (o : Option X) (P Q : X → Type 0) → ((x : X) → P x → Q x) → IfSome o P → IfSome o Q
if_some_map None P Q f h = tt
if_some_map (Some x) P Q f h = f x h

pub if_some_weaker : {X : Type 0} (P Q : X → Type 0) → ((x : X) → P x → Q x) → (o : Option X) → IfSome o P → IfSome o Q
if_some_weaker P Q f None h = tt
if_some_weaker P Q f (Some x) h = f x h

pub is_some_by_map : {X Y : Type 0} (f : X → Y) (o : Option X) (p : Option Y) → option_map f o ≡ p → is_some o ≡ is_some p
is_some_by_map f None p e = ap is_some e
is_some_by_map f (Some x) p e = ap is_some e

pub is_some_map : {X Y : Type 0} (f : X → Y) (o : Option X) → is_some (option_map f o) ≡ is_some o
is_some_map f None = refl
is_some_map f (Some x) = refl

pub is_some_map_back : {A B : Type 0} (f : A → B) (o : Option A) → is_some o ≡ is_some (option_map f o)
is_some_map_back f None = refl
is_some_map_back f (Some x) = refl

pub none_by_test : {X : Type 0} (o : Option X) → is_some o ≡ false → o ≡ None
none_by_test None e = refl
none_by_test (Some x) e = absurd (cc)

pub of_if_some : {A : Type 0} (P : A → Type 0) (o : Option A) (x : A) → o ≡ Some x → IfSome o P → P x
of_if_some P o x e h = subst (λ v. IfSome v P) e h

pub option_map_none : {X Y : Type 0} (f : X → Y) (o : Option X) → option_map f o ≡ None → o ≡ None
option_map_none f None e = refl
option_map_none f (Some x) e = absurd (cc)

pub option_or_map : {X Y : Type 0} (f : X → Y) (o : Option X) (x : X) → option_map f (option_or o (Some x)) ≡ option_or (option_map f o) (Some (f x))
option_or_map f (Some y) x = refl
option_or_map f None x = refl

pub option_or_none : {X : Type 0} (o : Option X) → option_or o None ≡ o
option_or_none (Some x) = refl
option_or_none None = refl

pub passes_by_cases : {A : Type 0} (test : A → Bool) (t : Bool) (y : A) (o : Option A) (x : A) → test y ≡ t → (o ≡ Some x → test x ≡ true) → cond t (Some y) o ≡ Some x → test x ≡ true
passes_by_cases test true y o x e rest f = let same : y ≡ x = cc in subst (λ z. test z ≡ true) same e
passes_by_cases test false y o x e rest f = rest f
