pub mod Agreement
pub mod ConfinedCalls
