pub use Rattle.rv_map_laws.specs.Map
pub use Rattle.rv_map_laws.specs.Text
pub use Rattle.rv_elf_laws.specs.Fields
pub use Rattle.rv_elf_laws.specs.Numbers
pub use Rattle.rv_elf_laws.specs.Records
pub use Rattle.rv_elf_laws.specs.Sections
-- What a segment of the code stands for.
pub mod SegmentView
-- What the code's own types of images and programs stand for.
pub mod Views
