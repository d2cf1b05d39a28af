mod Facts
mod FactsOfA
mod MendFacts
