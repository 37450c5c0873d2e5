mod TriedLemmas
