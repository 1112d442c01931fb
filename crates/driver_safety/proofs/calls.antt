pub mod Given
pub mod Returning
pub mod Arguments
pub mod Calling
pub mod Entering
pub mod Receiving
pub mod Answering
pub mod KernelCalls
