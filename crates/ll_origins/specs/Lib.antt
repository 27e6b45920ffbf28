pub mod TraceOrigins
pub mod CaseTrails
