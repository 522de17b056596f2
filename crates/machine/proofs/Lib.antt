-- Computed facts about a step.
pub mod StepFacts
