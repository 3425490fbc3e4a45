mod Asking
mod Services
mod Told
