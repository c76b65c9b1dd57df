pub mod BeginningLemmas
pub mod BehindGreetingLemmas
pub mod GreetingCallLemmas
pub mod HeardGreetingLemmas
pub mod NodeGreetingLemmas
pub mod SaidTextLemmas
pub mod SaysLemmas
pub mod WholeGreetingLemmas
