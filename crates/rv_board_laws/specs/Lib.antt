-- Devices: what stands where memory gives no right, and the run of a machine that has them.
pub mod Device
-- Platforms: what a program finds beside its own memory, and the run of an image on one.
pub mod Platform
-- The board virt: QEMU's machine of this name, as a program without interrupts meets it.
pub mod Virt
