pub mod PortFed
