-- What the code's own types of images and programs stand for.

use Rattle.std.specs.Prelude.{map}
use Rattle.rv_map.specs.Views.{map_of}
use Rattle.rv_image.specs.declared.writing.Part.{Part as DeclaredPart}
use Rattle.rv_image_laws.specs.Executable.{Part}
use Rattle.rv_image.specs.SegmentView.{segment_of}
use Rattle.rv_image.specs.declared.image.Image.{Image as DeclaredImage}
use Rattle.rv_image_laws.specs.Image.{Image}
use Rattle.rv_image.specs.declared.linked.Linked.{Linked as DeclaredLinked}
use Rattle.rv_image_laws.specs.Linked.{Linked}

abbrev pub segment_part : DeclaredPart → Part
segment_part part =
    record {
      address = part.address;
      stored = part.stored.now;
      zeros = part.zeros;
      flags = part.flags;
    }

abbrev pub image_of : DeclaredImage → Image
image_of image = record { entry = image.entry; segments = map segment_of image.segments.items }

abbrev pub linked_of : DeclaredLinked → Linked
linked_of l =
    record {
      text = l.text.items;
      rodata = l.rodata.items;
      «data» = l.data.items;
      map = map_of l.map;
      rvc = l.rvc;
    }
