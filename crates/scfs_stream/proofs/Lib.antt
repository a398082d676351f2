pub mod CipherSteps
pub mod StreamFacts
