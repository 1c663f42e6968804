mod NamedMoments
