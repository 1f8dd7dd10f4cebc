-- The list of pages by which the bytes of segments are found.

use Rattle.std.specs.Prelude.{◌≡◌, ℕ, ◌+◌, ◌*◌, ◌/◌, ◌<◌, ◌≤◌, ◌==◌, nat_le, Bool, if◌then◌else◌, List, [], ◌∷◌, ◌++◌, length, drop, slice_index_or, true, false, None}
use Rattle.std.specs.List.{list_any}
use Rattle.rv_isa_laws.specs.Platform.{stack_start, stack_end}
use Rattle.rv_image_laws.specs.Segment.{Segment, do_meet}
use Rattle.rv_image_laws.specs.Memory.{segment_at}
use Rattle.rv_memory.specs.Flat.{no_segment}
use Rattle.rv_memory.specs.declared.page.Page.{Page}

-- segments with bytes, by ascending addresses
pub record AreOrdered (segments : List Segment) : Type 0 where
  pub rises : (i j : ℕ) → i ≤ j → j < length segments →
      (slice_index_or segments i no_segment).address
      ≤ (slice_index_or segments j no_segment).address
  pub filled : (i : ℕ) → i < length segments →
      0 < length (slice_index_or segments i no_segment).bytes

-- segments of which all but the first are so
abbrev pub AreBehind : List Segment → Type 0
AreBehind segments = AreOrdered (drop 1 segments)

-- the segment at index i begins at the address or below, and each later one above it, unless that
-- at i begins there
pub record IsLastBegun (segments : List Segment) (address i : ℕ) : Type 0 where
  pub within : i < length segments
  pub low : (slice_index_or segments i no_segment).address ≤ address
  pub last : (k : ℕ) → i < k → k < length segments →
      (slice_index_or segments i no_segment).address < address →
      address < (slice_index_or segments k no_segment).address

-- one of the 4096 bytes of the page of this number lies in the segment
abbrev pub has_byte_on : ℕ → Segment → Bool
has_byte_on number s = do_meet s.address (length s.bytes) (4096 * number) 4096

-- a page of the list has this number, or this number or a higher one
abbrev pub is_listed : ℕ → List Page → Bool
is_listed number pages = list_any (λ page. page.number == number) pages

abbrev pub is_reached : ℕ → List Page → Bool
is_reached number pages = list_any (λ page. nat_le number page.number) pages

-- a page put behind those with lower numbers, where no other page has its number or a higher one
abbrev pub with_page : Page → List Page → List Page
with_page page pages = if is_reached page.number pages then pages else pages ++ (page ∷ [])

abbrev pub no_page : Page
no_page = record { number = 0; segment = 0 }

-- the numbers ascend
abbrev pub AreAscending : List Page → Type 0
AreAscending pages =
    (i j : ℕ) → i < j → j < length pages →
    (slice_index_or pages i no_page).number < (slice_index_or pages j no_page).number

-- the pages of segments: each that has a byte of theirs, by ascending numbers
pub record ArePages (segments : List Segment) (pages : List Page) : Type 0 where
  pub ascending : AreAscending pages
  pub all : (number : ℕ) → is_listed number pages ≡ list_any (has_byte_on number) segments

-- pages by which the bytes of segments and those of the whole stack, whether made or not, are found
pub record AreListed (segments : List Segment) (pages : List Page) : Type 0 where
  pub ascending : AreAscending pages
  pub all : (x : ℕ) → is_listed (x / 4096) pages ≡ false → segment_at segments x ≡ None
  pub stack : (x : ℕ) → stack_start ≤ x → x < stack_end → is_listed (x / 4096) pages ≡ true
