-- The code's device as that of the definitions.

use Rattle.rv_board_laws.specs.Device as laws
use Rattle.rv_board.specs.declared.device.Device.{Device}
use Rattle.rv_board.specs.declared.device.Device.TheVariants.{Plain, Serial, Constant, Power}

abbrev pub device_of : Device → laws.Device
device_of Plain = laws.Plain
device_of Serial = laws.Serial
device_of (Constant v) = laws.Constant v
device_of Power = laws.Power
