mod RunLemmas
mod ServeLemmas
