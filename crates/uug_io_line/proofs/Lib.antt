mod LineEndFacts
