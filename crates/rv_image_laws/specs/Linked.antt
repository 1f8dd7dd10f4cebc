-- What the linker makes, as a plain value.

use Rattle.std.specs.Prelude.{◌≡◌, ℕ, ◌+◌, ◌-◌, ◌%◌, ◌^◌, ◌≤◌, ◌<◌, Bool, List, length}
use Rattle.rv_isa_laws.specs.Platform.{memory_limit}
use Rattle.rv_map_laws.specs.Map.{Map}
use Rattle.rv_image_laws.specs.Free.{free_until}

-- the stored bytes of the regions, the map with their bounds, and whether there is compressed code
pub record Linked : Type 0 where
  pub text : List ℕ
  pub rodata : List ℕ
  pub «data» : List ℕ
  pub map : Map
  pub rvc : Bool

-- how the linker lays a program out: each region has its bytes, one after the other, bss after the
-- data, all in free memory, 256 MiB at most; the entry is even
pub record IsLaidOut (l : Linked) : Type 0 where
  pub text_fills : l.map.text.start + length l.text ≡ l.map.text.end
  pub rodata_fills : l.map.rodata.start + length l.rodata ≡ l.map.rodata.end
  pub data_fills : l.map.data.start + length l.data ≡ l.map.data.end
  pub rodata_after_text : l.map.text.end ≤ l.map.rodata.start
  pub data_after_rodata : l.map.rodata.end ≤ l.map.data.start
  pub bss_after_data : l.map.data.end ≤ l.map.bss.start
  pub bss_ends : l.map.bss.start ≤ l.map.bss.end
  pub in_free : l.map.bss.end ≤ free_until l.map.text.start
  pub limit : length l.text + length l.rodata + (l.map.bss.end - l.map.data.start) ≤ memory_limit
  pub even : l.map.entry % 2 ≡ 0
  pub entry : l.map.entry < 2 ^ 64
