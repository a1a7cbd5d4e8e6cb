pub mod Virt
