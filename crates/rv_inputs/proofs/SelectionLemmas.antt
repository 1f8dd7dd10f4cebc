-- The objects that are taken, one after another.

use Rattle.std.proofs.Common.{◌≡◌, ◌⊎◌, inl, inr, Option, ℕ, zero, suc, ◌+◌, ◌<◌, List, [], ◌∷◌, ◌++◌, length, get_or, map, take, Some, None, refl, sym, ap, subst, ◌∙◌, arith}
use Rattle.std.specs.List.{slice_get}
use Rattle.std.proofs.lemmas.List.{append-nil, append_assoc, map-append}
use Rattle.rv_list_laws.proofs.ElementsLemmas.{get_front, get_last, get_index_or}
use Rattle.rv_list_laws.proofs.MapLemmas.{get_map}
use Rattle.rv_list_laws.proofs.TakeDropLemmas.{take_next}
use Rattle.rv_archive_laws.proofs.OneSelectionLemmas.{not_both, one_value}
use Rattle.rv_archive_laws.specs.Taken.{ObjectNames, Offer, Position, front, behind_offer, next_offer, TakesFrom, Takes}
use Rattle.rv_object_laws.specs.Object.{Object}
use Rattle.rv_object_file_laws.specs.ObjectOf.{ObjectOf}
use Rattle.rv_inputs.specs.declared.search.Search.{Search}
use Rattle.rv_inputs.specs.Filed.{AreKnown}
use Rattle.rv_inputs.specs.Left.{IsFree}
use Rattle.rv_inputs.specs.Plain.{plain_offer}
use Rattle.rv_inputs.specs.State.{IsNext}
use Rattle.rv_object_file_laws.specs.FirstFault.{first_fault}
use Rattle.rv_inputs.specs.declared.fault.InputFault.{InputFault}
use Rattle.rv_inputs.specs.declared.fault.InputFault.TheVariants as faults
use Rattle.rv_inputs.specs.declared.input.Input.{Input}
use Rattle.rv_inputs.specs.Gathered.{FiledObject, Gathering, no_files, Gathers}
use Rattle.rv_inputs.specs.Names.{names_said}
use Rattle.rv_inputs.specs.Taken.{AreNamesOf, wanted, IsTakenBehind, AreRead, IsUnread, IsUnreadIn, IsInputRefused}
use Rattle.rv_inputs.specs.declared.taken.TakenObject.{TakenObject}
use Rattle.rv_inputs.specs.Views.{object_of}
use Rattle.rv_inputs.proofs.WholeLemmas.{get_either}

module _ (objects : List FiledObject) (numbers : List ℕ) (n : ℕ) (names_of : ℕ → ObjectNames) (are : AreNamesOf objects (numbers ++ n ∷ []) names_of) where
  pub names_before : AreNamesOf objects numbers names_of
  names_before = λ i m held o here there object. are i m held o (get_front numbers (n ∷ []) i m here) there object

  pub names_last : (held : FiledObject) (o : Object) → slice_get objects n ≡ Some held → ObjectOf held.bytes o → names_of n ≡ names_said o
  names_last held o there object = are (length numbers) n held o (get_last numbers n) there object

-- what is taken of these offers, as far as one has come
abbrev pub TakesSo : List FiledObject → List Offer → Position → List ℕ → Type 0
TakesSo objects offers at numbers = (names_of : ℕ → ObjectNames) (more : List ℕ) → AreNamesOf objects numbers names_of → TakesFrom names_of wanted offers at numbers more → Takes names_of wanted offers (numbers ++ more)

-- no object is taken yet
pub takes_start : (objects : List FiledObject) (offers : List Offer) (at : Position) (numbers : List ℕ) → numbers ≡ [] → at ≡ front → TakesSo objects offers at numbers
takes_start objects offers at numbers none start =
    subst (TakesSo objects offers at) (sym none) (subst (λ p. TakesSo objects offers p []) (sym start) (λ names_of more are rest. rest))

none_below : (n : ℕ) (i k : ℕ) → slice_get {X = ℕ} [] i ≡ Some k → k < n
none_below n i k here = cc

pub below_start : (numbers : List ℕ) (n : ℕ) → numbers ≡ [] → (i k : ℕ) → slice_get numbers i ≡ Some k → k < n
below_start numbers n none i k here = none_below n i k (subst (λ xs. slice_get xs i ≡ Some k) none here)

-- one object more
pub takes_more : (objects : List FiledObject) (offers : List Offer) (at now : Position) (numbers new : List ℕ) (n : ℕ) → new ≡ numbers ++ n ∷ [] → TakesSo objects offers at numbers
    → ((names_of : ℕ → ObjectNames) → AreNamesOf objects numbers names_of → IsNext names_of wanted offers at numbers n now) → TakesSo objects offers now new
takes_more objects offers at now numbers new n is so next =
    subst (TakesSo objects offers now) (sym is)
    (λ names_of more are rest.
    let before = names_before objects numbers n names_of are in
    let step = next names_of before in
    let tail = subst (λ p. TakesFrom names_of wanted offers p (numbers ++ n ∷ []) more) step.behind rest in
    subst (Takes names_of wanted offers) (sym (append_assoc numbers (n ∷ []) more))
    (so names_of (n ∷ more) before (step.offer, step.next, step.object_is, tail)))

-- no object more
pub takes_all : (objects : List FiledObject) (offers : List Offer) (at : Position) (numbers : List ℕ) → TakesSo objects offers at numbers
    → ((names_of : ℕ → ObjectNames) → AreNamesOf objects numbers names_of → next_offer names_of wanted offers at numbers ≡ None)
    → (names_of : ℕ → ObjectNames) → AreNamesOf objects numbers names_of → Takes names_of wanted offers numbers
takes_all objects offers at numbers so none names_of are =
    subst (Takes names_of wanted offers) (append-nil numbers) (so names_of [] are (none names_of are))

last_below : (n m j k : ℕ) → n < m → slice_get (n ∷ []) j ≡ Some k → k < m
last_below n m zero k less here = let same : n ≡ k = cc in omega (arith, less, same)
last_below n m (suc j) k less here = absurd (cc)

-- each number is that of an object
pub below_more : (numbers new : List ℕ) (n m : ℕ) → new ≡ numbers ++ n ∷ [] → n < m → ((i k : ℕ) → slice_get numbers i ≡ Some k → k < m) → (i k : ℕ) → slice_get new i ≡ Some k → k < m
below_more numbers new n m is less below i k here =
    elim (get_either numbers (n ∷ []) i k (subst (λ xs. slice_get xs i ≡ Some k) is here)) [
      | inl a ↦ below i k a.1
      | inr b ↦ last_below n m b.0 k less b.2
    ]

-- ---- an object that is not read

-- what is taken from here on begins with the next object
next_first : (names_of : ℕ → ObjectNames) (offers : List Offer) (at now : Position) (numbers : List ℕ) (n : ℕ) (more : List ℕ) → IsNext names_of wanted offers at numbers n now → TakesFrom names_of wanted offers at numbers more
    → (rest : List ℕ) × (more ≡ n ∷ rest) × TakesFrom names_of wanted offers now (numbers ++ n ∷ []) rest
next_first names_of offers at now numbers n [] step takes = absurd (not_both (next_offer names_of wanted offers at numbers) step.offer takes step.next)
next_first names_of offers at now numbers n (x ∷ xs) step takes =
    let offer = one_value (next_offer names_of wanted offers at numbers) takes.0 step.offer takes.1 step.next in
    let same : x ≡ n = takes.2 ∙ ap (λ (o : ℕ × Offer). o.1.object) offer ∙ sym step.object_is in
    let there = subst (λ (o : ℕ × Offer). TakesFrom names_of wanted offers (behind_offer o) (numbers ++ x ∷ []) xs) offer takes.3 in
    let behind = subst (λ (p : Position). TakesFrom names_of wanted offers p (numbers ++ x ∷ []) xs) (sym step.behind) there in
    (xs, ap (λ z. z ∷ xs) same, subst (λ (z : ℕ). TakesFrom names_of wanted offers now (numbers ++ z ∷ []) xs) same behind)

-- all that a link takes has what was taken so far at its front
abbrev pub Follows : List FiledObject → List Offer → Position → List ℕ → Type 0
Follows objects offers at numbers = (names_of : ℕ → ObjectNames) → AreNamesOf objects numbers names_of → (all : List ℕ) → Takes names_of wanted offers all
    → (more : List ℕ) × (all ≡ numbers ++ more) × TakesFrom names_of wanted offers at numbers more

pub follows_start : (objects : List FiledObject) (offers : List Offer) (at : Position) (numbers : List ℕ) → numbers ≡ [] → at ≡ front → Follows objects offers at numbers
follows_start objects offers at numbers none start =
    subst (Follows objects offers at) (sym none) (subst (λ p. Follows objects offers p []) (sym start) (λ names_of are all takes. (all, refl, takes)))

pub follows_more : (objects : List FiledObject) (offers : List Offer) (at now : Position) (numbers new : List ℕ) (n : ℕ) → new ≡ numbers ++ n ∷ [] → Follows objects offers at numbers
    → ((names_of : ℕ → ObjectNames) → AreNamesOf objects numbers names_of → IsNext names_of wanted offers at numbers n now) → Follows objects offers now new
follows_more objects offers at now numbers new n is so next =
    subst (Follows objects offers now) (sym is)
    (λ names_of are all takes.
    let before = names_before objects numbers n names_of are in
    let was = so names_of before all takes in
    let step = next_first names_of offers at now numbers n was.0 (next names_of before) was.2 in
    (step.0, was.1 ∙ ap (λ xs. numbers ++ xs) step.1 ∙ sym (append_assoc numbers (n ∷ []) step.0), step.2))

pub taken_behind : (g : Gathering) (at now : Position) (numbers : List ℕ) (n : ℕ) → Follows g.objects g.offers at numbers
    → ((names_of : ℕ → ObjectNames) → AreNamesOf g.objects numbers names_of → IsNext names_of wanted g.offers at numbers n now) → IsTakenBehind g numbers n
taken_behind g at now numbers n so next = λ names_of are all takes.
    let was = so names_of are all takes in
    let step = next_first names_of g.offers at now numbers n was.0 (next names_of are) was.2 in
    (step.0, was.1 ∙ ap (λ xs. numbers ++ xs) step.1)

-- the objects taken so far were read
none_read : (objects : List FiledObject) → AreRead objects []
none_read objects i n bytes here there = cc

pub read_start : (objects : List FiledObject) (numbers : List ℕ) → numbers ≡ [] → AreRead objects numbers
read_start objects numbers none = subst (AreRead objects) (sym none) (none_read objects)

last_read : (objects : List FiledObject) (n j k : ℕ) (read held : FiledObject) → slice_get objects n ≡ Some read → first_fault read.bytes ≡ None → slice_get (n ∷ []) j ≡ Some k → slice_get objects k ≡ Some held → first_fault held.bytes ≡ None
last_read objects n zero k read held at good here there =
    let same : n ≡ k = cc in
    let found = subst (λ (m : ℕ). slice_get objects m ≡ Some read) same at in
    subst (λ (b : FiledObject). first_fault b.bytes ≡ None) (one_value (slice_get objects k) read held found there) good
last_read objects n (suc j) k read held at good here there = absurd (cc)

pub read_more : (objects : List FiledObject) (numbers new : List ℕ) (n : ℕ) (one : FiledObject) → new ≡ numbers ++ n ∷ [] → slice_get objects n ≡ Some one → first_fault one.bytes ≡ None → AreRead objects numbers → AreRead objects new
read_more objects numbers new n one is at good read i k held here there =
    elim (get_either numbers (n ∷ []) i k (subst (λ xs. slice_get xs i ≡ Some k) is here)) [
      | inl a ↦ read i k held a.1 there
      | inr b ↦ last_read objects n b.0 k one held at good b.2 there
    ]

pub unread_in : (g : Gathering) (numbers : List ℕ) (n : ℕ) (held : FiledObject) (fault : InputFault) → AreRead g.objects numbers → IsTakenBehind g numbers n → slice_get g.objects n ≡ Some held → IsUnread held fault → IsUnreadIn g fault
unread_in g numbers n held (faults.Archive file fault) read taken there unread = unread
unread_in g numbers n held (faults.Object object fault) read taken there unread = record {
  before = numbers;
  read = read;
  number = n;
  taken = taken;
  there = there ∙ ap (λ b. Some b) (sym unread.0);
  fault = ap (λ (o : FiledObject). first_fault o.bytes) unread.0 ∙ unread.1;
}
unread_in g numbers n held faults.OutOfMemory read taken there unread = tt

pub refused_by : (inputs : List Input) (g : Gathering) (fault : InputFault) → Gathers inputs no_files g → IsUnreadIn g fault → IsInputRefused inputs fault
refused_by inputs g (faults.Archive file fault) gathers unread = absurd unread
refused_by inputs g (faults.Object object fault) gathers unread = (g, gathers, unread)
refused_by inputs g faults.OutOfMemory gathers unread = tt

-- ---- the number of an object that is offered

abbrev pub OffersOne : List Offer → ℕ → Type 0
OffersOne offers n = (place : ℕ) × (offer : Offer) × (slice_get offers place ≡ Some offer) × (offer.object ≡ n)

pub offers_one : (s : Search) (offers : List Offer) (n : ℕ) → map plain_offer s.offers.now ≡ offers → IsFree s n → OffersOne offers n
offers_one s offers n same free = subst (λ os. OffersOne os n) same (free.place, free.offer, free.there, free.object_is)

pub number_below : (offers : List Offer) (count n : ℕ) → AreKnown offers count → OffersOne offers n → n < count
number_below offers count n known one = let below = known one.0 one.1 one.2 in omega (arith, below, one.3)

-- ---- the objects of numbers

pub numbered_next : (objects : List TakenObject) (numbers : List ℕ) (i dn : ℕ) (d : TakenObject) (taken new : List TakenObject) → i < length numbers → get_or numbers i dn < length objects → new ≡ taken ++ get_or objects (get_or numbers i dn) d ∷ []
    → map (slice_get (map object_of objects)) (take i numbers) ≡ map (λ (b : FiledObject). Some b) (map object_of taken)
    → map (slice_get (map object_of objects)) (take (i + 1) numbers) ≡ map (λ (b : FiledObject). Some b) (map object_of new)
numbered_next objects numbers i dn d taken new less below pushed is =
    let n = get_or numbers i dn in let x = get_or objects (get_or numbers i dn) d in
    ap (map (slice_get (map object_of objects))) (take_next numbers i (get_or numbers i dn) (get_index_or numbers i dn less))
    ∙ map-append (slice_get (map object_of objects)) (take i numbers) (n ∷ [])
    ∙ ap (λ xs. xs ++ slice_get (map object_of objects) n ∷ []) is
    ∙ ap (λ y. map (λ (b : FiledObject). Some b) (map object_of taken) ++ y ∷ []) (get_map object_of objects n x (get_index_or objects n d below))
    ∙ sym (map-append (λ (b : FiledObject). Some b) (map object_of taken) (object_of x ∷ []))
    ∙ ap (map (λ (b : FiledObject). Some b)) (sym (map-append object_of taken (x ∷ [])) ∙ sym (ap (map object_of) pushed))
