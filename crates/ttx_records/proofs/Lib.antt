mod AbsentPages
mod Lines
