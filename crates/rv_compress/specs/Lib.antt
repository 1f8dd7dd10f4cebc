-- What holds of parcels: RISC-V Unprivileged ISA 20191213, chapter 16.
pub mod Laws
